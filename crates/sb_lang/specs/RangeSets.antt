-- Union and intersection of sets of characters, as canonical lists of ranges.
use Rattle.std.specs.Prelude.{◌+◌, true, false, nat_lt, nat_le, min, max, if◌then◌else◌, List, [], ◌∷◌, ◌++◌}
use Rattle.sb_class.specs.Ranges.{Range}

-- with one more range, which is joined with those that it overlaps or touches
unfoldable pub with_range : Range → List Range → List Range
with_range r [] = r ∷ []
with_range r (s ∷ ss) =
    elim (nat_lt (r.1 + 1) s.0) [
      | true ↦ r ∷ s ∷ ss
      | false ↦ elim (nat_lt (s.1 + 1) r.0) [
        | true ↦ s ∷ with_range r ss
        | false ↦ with_range (min r.0 s.0, max r.1 s.1) ss
      ]
    ]

unfoldable pub union : List Range → List Range → List Range
union [] ss = ss
union (r ∷ rs) ss = with_range r (union rs ss)

-- what two ranges have in common
unfoldable pub overlap : Range → Range → List Range
overlap r s = if nat_le (max r.0 s.0) (min r.1 s.1) then (max r.0 s.0, min r.1 s.1) ∷ [] else []

-- what a range and a set have in common
unfoldable pub within_range : Range → List Range → List Range
within_range r [] = []
within_range r (s ∷ ss) = overlap r s ++ within_range r ss

unfoldable pub inter : List Range → List Range → List Range
inter [] ss = []
inter (r ∷ rs) ss = within_range r ss ++ inter rs ss
