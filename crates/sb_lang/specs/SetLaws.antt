-- Laws of union and intersection of sets of characters.
use Rattle.std.specs.Prelude.{◌≡◌, ℕ, ◌&&◌, ◌||◌, List}
use Rattle.sb_class.specs.Ranges.{Range, in_ranges, IsCanonical}
use Rattle.sb_lang.specs.RangeSets.{union, inter}

abbrev pub UnionHasBoth : Type 0
UnionHasBoth = (rs ss : List Range) (c : ℕ) → in_ranges (union rs ss) c ≡ (in_ranges rs c || in_ranges ss c)

abbrev pub IntersectionHasCommon : Type 0
IntersectionHasCommon = (rs ss : List Range) (c : ℕ) → in_ranges (inter rs ss) c ≡ (in_ranges rs c && in_ranges ss c)

abbrev pub UnionIsCanonical : Type 0
UnionIsCanonical = (rs ss : List Range) → IsCanonical rs → IsCanonical ss → IsCanonical (union rs ss)

abbrev pub IntersectionIsCanonical : Type 0
IntersectionIsCanonical = (rs ss : List Range) → IsCanonical rs → IsCanonical ss → IsCanonical (inter rs ss)
