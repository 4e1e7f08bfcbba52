-- Private: the regex of a node, made in an arena.
use Rattle.std.specs.Global.{Global}
use Rattle.std.specs.Prelude.{Vec, ◌≡◌, ℕ, Bool, true, false, ◌&&◌, nat_eq, List, [], ◌∷◌, ◌++◌, Option, Some, None, Result, Ok, Err}
use Rattle.std.specs.List.{list_any}
use Rattle.std.specs.Cmp.Lexicographic.{pointwise}
use Rattle.sb_lang.specs.Regex.{Regex}
use Rattle.sb_lang.specs.NormalForm.{is_normal}
use Rattle.sb_regex.specs.Numbered.{Names}
use Rattle.sb_regex.specs.declared.node.Node.{Node}
use Rattle.sb_regex.specs.declared.node.Node.TheVariants as node
use Rattle.sb_rulebook.specs.Refusals as rules
use Rattle.sb_rules.specs.Answers.{refusal_in}
use Rattle.sb_rules.specs.Known.{Known}
use Rattle.sb_rules.specs.declared.fault.Fault.{Fault}
use Rattle.sb_rules.specs.declared.fault.Fault.TheVariants as fault

-- the number of the regex, if it is normal
abbrev pub IsNormalAs : List Regex → Regex → Option ℕ → Type 0
IsNormalAs rs r (Some id) = Names rs id r
IsNormalAs rs r None = is_normal r ≡ false

-- A node is the one of an operation and of these parts.

abbrev pub is_cat_node : Node → Bool
is_cat_node (node.Cat a b) = true
is_cat_node node.None = false
is_cat_node node.Eps = false
is_cat_node (node.Set ranges) = false
is_cat_node (node.Alt ps) = false
is_cat_node (node.And ps) = false
is_cat_node (node.Not a) = false
is_cat_node (node.Star a) = false
is_cat_node (node.Rep r n m) = false
is_cat_node (node.Path a b) = false

abbrev pub is_cat_of : ℕ → ℕ → Node → Bool
is_cat_of a b (node.Cat first second) = nat_eq first a && nat_eq second b
is_cat_of a b node.None = false
is_cat_of a b node.Eps = false
is_cat_of a b (node.Set ranges) = false
is_cat_of a b (node.Alt ps) = false
is_cat_of a b (node.And ps) = false
is_cat_of a b (node.Not c) = false
is_cat_of a b (node.Star c) = false
is_cat_of a b (node.Rep r n m) = false
is_cat_of a b (node.Path c d) = false

abbrev pub is_alt_of : List ℕ → Node → Bool
is_alt_of ids (node.Alt ps) = pointwise nat_eq ps.items ids
is_alt_of ids node.None = false
is_alt_of ids node.Eps = false
is_alt_of ids (node.Set ranges) = false
is_alt_of ids (node.Cat a b) = false
is_alt_of ids (node.And ps) = false
is_alt_of ids (node.Not a) = false
is_alt_of ids (node.Star a) = false
is_alt_of ids (node.Rep r n m) = false
is_alt_of ids (node.Path a b) = false

abbrev pub is_and_of : List ℕ → Node → Bool
is_and_of ids (node.And ps) = pointwise nat_eq ps.items ids
is_and_of ids node.None = false
is_and_of ids node.Eps = false
is_and_of ids (node.Set ranges) = false
is_and_of ids (node.Cat a b) = false
is_and_of ids (node.Alt ps) = false
is_and_of ids (node.Not a) = false
is_and_of ids (node.Star a) = false
is_and_of ids (node.Rep r n m) = false
is_and_of ids (node.Path a b) = false

abbrev pub is_not_of : ℕ → Node → Bool
is_not_of a (node.Not part) = nat_eq part a
is_not_of a node.None = false
is_not_of a node.Eps = false
is_not_of a (node.Set ranges) = false
is_not_of a (node.Cat b c) = false
is_not_of a (node.Alt ps) = false
is_not_of a (node.And ps) = false
is_not_of a (node.Star b) = false
is_not_of a (node.Rep r n m) = false
is_not_of a (node.Path b c) = false

abbrev pub is_star_of : ℕ → Node → Bool
is_star_of a (node.Star part) = nat_eq part a
is_star_of a node.None = false
is_star_of a node.Eps = false
is_star_of a (node.Set ranges) = false
is_star_of a (node.Cat b c) = false
is_star_of a (node.Alt ps) = false
is_star_of a (node.And ps) = false
is_star_of a (node.Not b) = false
is_star_of a (node.Rep r n m) = false
is_star_of a (node.Path b c) = false

abbrev pub is_rep_of : ℕ → ℕ → ℕ → Node → Bool
is_rep_of a n m (node.Rep part least most) = nat_eq part a && (nat_eq least n && nat_eq most m)
is_rep_of a n m node.None = false
is_rep_of a n m node.Eps = false
is_rep_of a n m (node.Set ranges) = false
is_rep_of a n m (node.Cat b c) = false
is_rep_of a n m (node.Alt ps) = false
is_rep_of a n m (node.And ps) = false
is_rep_of a n m (node.Not b) = false
is_rep_of a n m (node.Star b) = false
is_rep_of a n m (node.Path b c) = false

abbrev pub is_path_of : ℕ → ℕ → Node → Bool
is_path_of a b (node.Path from to) = nat_eq from a && nat_eq to b
is_path_of a b node.None = false
is_path_of a b node.Eps = false
is_path_of a b (node.Set ranges) = false
is_path_of a b (node.Cat c d) = false
is_path_of a b (node.Alt ps) = false
is_path_of a b (node.And ps) = false
is_path_of a b (node.Not c) = false
is_path_of a b (node.Star c) = false
is_path_of a b (node.Rep r n m) = false

-- what is found of a number of the proof
abbrev pub IsOne : Option ℕ → Result ℕ Fault → Type 0
IsOne found (Ok id) = found ≡ Some id
IsOne found (Err (fault.Refused refusal)) = (found ≡ None) × (refusal_in refusal ≡ rules.unknown_id)
IsOne found (Err fault.NoMemory) = ⊥

-- what is found of several
abbrev pub AreSeveral : Option (List ℕ) → Result (Vec ℕ Global) Fault → Type 0
AreSeveral found (Ok ids) = found ≡ Some ids.items
AreSeveral found (Err (fault.Refused refusal)) = (found ≡ None) × (refusal_in refusal ≡ rules.unknown_id)
AreSeveral found (Err fault.NoMemory) = Unit {0}

-- the regex of a node, made in an arena if it is normal
abbrev pub IsMade : List Regex → Option Regex → Result (Option ℕ) Fault → Type 0
IsMade rs made (Ok found) = (r : Regex) × (made ≡ Some r) × IsNormalAs rs r found
IsMade rs made (Err (fault.Refused refusal)) = (made ≡ None) × (refusal_in refusal ≡ rules.unknown_id)
IsMade rs made (Err fault.NoMemory) = Unit {0}

-- one more regex is kept, which is neither expanded nor dead, unless it was there
abbrev pub IsAdded : {A : Type 0} → Known → Known → ℕ → Result A Fault → Type 0
IsAdded old new id (Ok done) =
    (list_any (nat_eq id) old.order ≡ false)
    × (new ≡ record {
      order = old.order ++ id ∷ [];
      expansions = old.expansions ++ None ∷ [];
      dead = old.dead ++ false ∷ [];
    })
IsAdded old new id (Err (fault.Refused refusal)) =
    (list_any (nat_eq id) old.order ≡ true) × (refusal_in refusal ≡ rules.repeated) × (new ≡ old)
IsAdded old new id (Err fault.NoMemory) = new ≡ old
