-- Private: the parts of a node, and the classes of an expansion.
use Rattle.std.specs.Prelude.{◌≡◌, ℕ, ◌-◌, ◌^◌, ◌<◌, Bool, true, not, List, [], ◌∷◌, ◌++◌, length, map, take, drop, Some, is_some}
use Rattle.sb_lang.specs.Regex.{Regex}
use Rattle.sb_regex.specs.declared.node.Node.{Node}
use Rattle.sb_regex.specs.declared.node.Node.TheVariants as node
use Rattle.sb_regex.specs.Numbered.{regex_at}
use Rattle.sb_regex.specs.Nodes.{node_regex, PartsBelow}
use Rattle.sb_deriv.specs.Pieces.{end_of_characters, targets_of}
use Rattle.sb_proof.specs.declared.line.Class.{Class}
use Rattle.sb_proof.specs.Lines.{class_in}
use Rattle.sb_rulebook.specs.Lines as lines
use Rattle.sb_trace.specs.Tracking.{number_in}

-- the regex has a number
abbrev pub IsNumbered : List ℕ → ℕ → Type 0
IsNumbered order n = is_some (number_in order n) ≡ true

-- the regex has none
abbrev pub is_lacking : List ℕ → ℕ → Bool
is_lacking order n = not (is_some (number_in order n))

-- the node of a proof with the numbers of the parts
abbrev pub IsNodeIn : List ℕ → Node → lines.Node → Type 0
IsNodeIn order node.None n = n ≡ lines.none_node
IsNodeIn order node.Eps n = n ≡ lines.eps_node
IsNodeIn order (node.Set ranges) n = n ≡ lines.set_node ranges.items
IsNodeIn order (node.Cat a b) n =
    (i : ℕ) × (j : ℕ) × (number_in order a ≡ Some i) × (number_in order b ≡ Some j) × (n ≡ lines.cat_node i j)
IsNodeIn order (node.Alt parts) n =
    (is : List ℕ) × (map (number_in order) parts.items ≡ map Some is) × (n ≡ lines.alt_node is)
IsNodeIn order (node.And parts) n =
    (is : List ℕ) × (map (number_in order) parts.items ≡ map Some is) × (n ≡ lines.and_node is)
IsNodeIn order (node.Not a) n = (i : ℕ) × (number_in order a ≡ Some i) × (n ≡ lines.not_node i)
IsNodeIn order (node.Star a) n = (i : ℕ) × (number_in order a ≡ Some i) × (n ≡ lines.star_node i)
IsNodeIn order (node.Rep a least most) n =
    (i : ℕ) × (number_in order a ≡ Some i) × (least < 2 ^ 64) × (most < 2 ^ 64) × (n ≡ lines.rep_node i least most)
IsNodeIn order (node.Path a b) n =
    (i : ℕ) × (j : ℕ) × (number_in order a ≡ Some i) × (number_in order b ≡ Some j) × (n ≡ lines.path_node i j)

-- the node is the one of the regex at a number
pub record IsNodeAt (rs : List Regex) (n : ℕ) (node : Node) : Type 0 where
  pub known : n < length rs
  pub regex : node_regex rs node ≡ regex_at rs n
  pub parts : PartsBelow n node

-- where the first of the pieces begins, or the end
abbrev pub first_of : ℕ → List (ℕ × ℕ) → ℕ
first_of end [] = end
first_of end (p ∷ ps) = p.0

-- a class for each piece: its characters, up to where the next piece begins, and the number of its target
abbrev pub classes_of : List (ℕ × ℕ) → List ℕ → List lines.Class
classes_of [] ns = []
classes_of (p ∷ ps) [] = []
classes_of (p ∷ ps) (n ∷ ns) = (((p.0, first_of end_of_characters ps - 1) ∷ []), n) ∷ classes_of ps ns

-- the classes of the pieces before a place: with those of the others they are the classes of all
pub record AreClassesUpTo (order : List ℕ) (pieces : List (ℕ × ℕ)) (place : ℕ) (classes : List Class) : Type 0 where
  pub targets : List ℕ
  pub numbered : map (number_in order) (targets_of (take place pieces)) ≡ map Some targets
  pub are : (ns : List ℕ)
      → map class_in classes ++ classes_of (drop place pieces) ns ≡ classes_of pieces (targets ++ ns)

pub record AreClassesOf (order : List ℕ) (pieces : List (ℕ × ℕ)) (classes : List Class) : Type 0 where
  pub targets : List ℕ
  pub numbered : map (number_in order) (targets_of pieces) ≡ map Some targets
  pub are : map class_in classes ≡ classes_of pieces targets
