-- Which lines that define a regex are accepted.
use Rattle.std.specs.Prelude.{◌≡◌, ◌↔◌, ℕ, true, List, [], ◌∷◌, slice_get, Some, Ok}
use Rattle.sb_lang.specs.Regex.{Regex, none, eps, set, cat, alt, and, neg, star, rep, path, regexes}
use Rattle.sb_lang.specs.NormalForm.{is_normal}
use Rattle.sb_rulebook.specs.Lines.{Node, none_node, eps_node, set_node, cat_node, alt_node, and_node, not_node, star_node, rep_node, path_node}
use Rattle.sb_rulebook.specs.Kept.{AllKept, with_regex}
use Rattle.sb_rulebook.specs.RegexRules.{follows_regex}

-- the regexes are those of the numbers
abbrev pub AreAt : List Regex → List ℕ → List Regex → Type 0
AreAt known [] [] = Unit {0}
AreAt known (id ∷ ids) (r ∷ rs) = (slice_get known id ≡ Some r) × AreAt known ids rs
AreAt known _ _ = ⊥

-- the regex is the node, with the regexes of its numbers as its parts
abbrev pub IsOfNode : List Regex → Node → Regex → Type 0
IsOfNode known none_node r = r ≡ none
IsOfNode known eps_node r = r ≡ eps
IsOfNode known (set_node ranges) r = r ≡ set ranges
IsOfNode known (cat_node a b) r = (p : Regex) × (q : Regex) × (slice_get known a ≡ Some p) × (slice_get known b
    ≡ Some q)
    × (r ≡ cat p q)
IsOfNode known (alt_node ids) r = (rs : List Regex) × AreAt known ids rs × (r ≡ alt (regexes rs))
IsOfNode known (and_node ids) r = (rs : List Regex) × AreAt known ids rs × (r ≡ and (regexes rs))
IsOfNode known (not_node a) r = (p : Regex) × (slice_get known a ≡ Some p) × (r ≡ neg p)
IsOfNode known (star_node a) r = (p : Regex) × (slice_get known a ≡ Some p) × (r ≡ star p)
IsOfNode known (rep_node a n m) r = (p : Regex) × (slice_get known a ≡ Some p) × (r ≡ rep p n m)
IsOfNode known (path_node a b) r = (p : Regex) × (q : Regex) × (slice_get known a ≡ Some p)
    × (slice_get known b ≡ Some q)
    × (r ≡ path p q)

-- The parts are defined, the regex is not defined before, and it is normal.
pub record IsRegexLine (kept after : AllKept) (node : Node) : Type 0 where
  pub regex : Regex
  pub of_node : IsOfNode kept.regexes node regex
  pub new : (id : ℕ) → slice_get kept.regexes id ≡ Some regex → ⊥
  pub normal : is_normal regex ≡ true
  pub is_kept : after ≡ with_regex regex kept

abbrev pub RegexLinesAreExact : Type 0
RegexLinesAreExact = (kept after : AllKept) (node : Node)
    → (follows_regex kept node ≡ Ok after) ↔ IsRegexLine kept after node
