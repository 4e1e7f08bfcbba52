-- Laws of the order of regexes.
use Rattle.std.specs.Prelude.{◌≡◌, ◌↔◌, ℕ, ◌<◌, List, [], ◌∷◌}
use Rattle.std.specs.declared.cmp.Ordering.{Ordering}
use Rattle.std.specs.declared.cmp.Ordering.TheVariants.{Less, Equal}
use Rattle.std.specs.Ordering.{nat_cmp, ordering_then}
use Rattle.std.specs.Cmp.{IsTotalOrder}
use Rattle.std.specs.Cmp.Lexicographic.{slice_cmp}
use Rattle.sb_class.specs.Ranges.{Range}
use Rattle.sb_lang.specs.Regex.{Regex, Regexes, none, eps, set, cat, alt, and, neg, star, rep, path, parts}
use Rattle.sb_lang.specs.Order.{regex_cmp}

-- the kind's place
unfoldable pub kind : Regex → ℕ
kind none = 0
kind eps = 1
kind (set rs) = 2
kind (cat a b) = 3
kind (alt ps) = 4
kind (and ps) = 5
kind (neg a) = 6
kind (star a) = 7
kind (rep a n m) = 8
kind (path a b) = 9

-- the range ends of a set
unfoldable pub ends : List Range → List ℕ
ends [] = []
ends (r ∷ rs) = r.0 ∷ r.1 ∷ ends rs

-- by the kind's place, then by the parts from left to right
pub record IsByKindThenParts (cmp : Regex → Regex → Ordering) : Type 0 where
  pub kinds : (a b : Regex) → kind a < kind b → cmp a b ≡ Less
  pub sets : (rs ss : List Range) → cmp (set rs) (set ss) ≡ slice_cmp nat_cmp (ends rs) (ends ss)
  pub concatenations : (a b c d : Regex) → cmp (cat a b) (cat c d) ≡ ordering_then (cmp a c) (cmp b d)
  pub unions : (ps qs : Regexes) → cmp (alt ps) (alt qs) ≡ slice_cmp cmp (parts ps) (parts qs)
  pub intersections : (ps qs : Regexes) → cmp (and ps) (and qs) ≡ slice_cmp cmp (parts ps) (parts qs)
  pub complements : (a b : Regex) → cmp (neg a) (neg b) ≡ cmp a b
  pub stars : (a b : Regex) → cmp (star a) (star b) ≡ cmp a b
  pub repetitions : (a : Regex) (n m : ℕ) (b : Regex) (k l : ℕ) →
      cmp (rep a n m) (rep b k l) ≡ ordering_then (cmp a b) (ordering_then (nat_cmp n k) (nat_cmp m l))
  pub paths : (a b c d : Regex) → cmp (path a b) (path c d) ≡ ordering_then (cmp a c) (cmp b d)

-- the order of the codes is that order
abbrev pub OrderIsByParts : Type 0
OrderIsByParts = IsByKindThenParts regex_cmp

abbrev pub OrderIsTotal : Type 0
OrderIsTotal = IsTotalOrder regex_cmp

-- only equal regexes are in one place
abbrev pub OrderTellsApart : Type 0
OrderTellsApart = (a b : Regex) → (regex_cmp a b ≡ Equal) ↔ (a ≡ b)
