-- The difference of two sums is as small as the one the other way around.
use Rattle.std.specs.Prelude.{◌≡◌, true, Some}
use Rattle.sb_meaning.specs.Terms.{Term}
use Rattle.sb_script.specs.Sums.{Sum, subtracted, is_small, sum_of}

abbrev pub SmallBothWays : Type 0
SmallBothWays = (a b : Term) (s t : Sum) → sum_of a ≡ Some s → sum_of b ≡ Some t
    → is_small (subtracted s t) ≡ true → is_small (subtracted t s) ≡ true
