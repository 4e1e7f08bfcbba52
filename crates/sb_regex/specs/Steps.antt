-- Private: one step of a comparison, and the members that are left of a list.
use Rattle.std.specs.Prelude.{◌≡◌, ◌<◌, ℕ, ◌+◌, Bool, not, if◌then◌else◌, cond, nat_eq, List, [], ◌∷◌, filter, length, get_or, All}
use Rattle.std.specs.List.{list_any, list_all}
use Rattle.std.specs.declared.cmp.Ordering.{Ordering}
use Rattle.std.specs.declared.cmp.Ordering.TheVariants.{Less, Equal, Greater}
use Rattle.sb_class.specs.Ranges.{Range, in_ranges}
use Rattle.sb_lang.specs.Regex.{Regex, none}
use Rattle.sb_lang.specs.Order.{regex_cmp}
use Rattle.sb_lang.specs.Constructors.{anything, is_set, is_none, is_anything, alt_of, and_of, sorted}
use Rattle.sb_regex.specs.Numbered.{regex_at}
use Rattle.sb_regex.specs.declared.compare.Difference.{Difference}
use Rattle.sb_regex.specs.declared.compare.Difference.TheVariants.{Decided, Parts}

-- the order is this, or that of the parts, which have smaller numbers
abbrev pub IsDifference : List Regex → ℕ → ℕ → Difference → Type 0
IsDifference rs a b (Decided o) = regex_cmp (regex_at rs a) (regex_at rs b) ≡ o
IsDifference rs a b (Parts x y) =
    (x < a) × (y < b) × (regex_cmp (regex_at rs a) (regex_at rs b) ≡ regex_cmp (regex_at rs x) (regex_at rs y))

abbrev pub without_sets : List Regex → List Regex
without_sets rs = filter (λ r. not (is_set r)) rs

-- a union of members of which none is a union, and one at most a set
abbrev pub union_of_members : List Regex → Regex
union_of_members members = if list_any is_anything members then anything
    else alt_of (sorted (filter (λ r. not (is_none r)) members))

-- the dual
abbrev pub intersection_of_members : List Regex → Regex
intersection_of_members members = if list_any is_none members then none
    else and_of (sorted (filter (λ r. not (is_anything r)) members))

-- where two lists of numbers first differ, or the order of their lengths
abbrev pub first_difference : List ℕ → List ℕ → Difference
first_difference [] [] = Decided Equal
first_difference [] (y ∷ ys) = Decided Less
first_difference (x ∷ xs) [] = Decided Greater
first_difference (x ∷ xs) (y ∷ ys) = cond (nat_eq x y) (first_difference xs ys) (Parts x y)

-- the number is in some of the sets, and in each of them
abbrev pub in_some : List (List Range) → ℕ → Bool
in_some sets c = list_any (λ s. in_ranges s c) sets

abbrev pub in_all : List (List Range) → ℕ → Bool
in_all sets c = list_all (λ s. in_ranges s c) sets

-- pairs of numbers whose regexes are in the order of these two
abbrev pub AreAlike : List Regex → ℕ → ℕ → List (ℕ × ℕ) → Type 0
AreAlike rs a b pairs =
    All (λ p. (p.0 < length rs) × (p.1 < length rs)
    × (regex_cmp (regex_at rs a) (regex_at rs b) ≡ regex_cmp (regex_at rs p.0) (regex_at rs p.1))) pairs

-- each number's regex has this place before the next one's
abbrev pub AreSteps : List Regex → Ordering → List ℕ → Type 0
AreSteps rs step ids = (k : ℕ) → k + 1 < length ids → regex_cmp (regex_at rs (get_or ids k 0)) (regex_at rs (get_or ids
    (k + 1) 0)) ≡ step
