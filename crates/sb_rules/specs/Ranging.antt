-- Private: ranges of numbers, as sets of characters.
use Rattle.std.specs.Global.{Global}
use Rattle.std.specs.Prelude.{Vec, ◌≡◌, false, List, Option, Some, None}
use Rattle.sb_class.specs.Ranges.{Range, rises_from}

-- the same ranges, or they are no canonical set
abbrev pub AreNarrowed : List Range → Option (Vec Range Global) → Type 0
AreNarrowed ranges (Some narrow) = narrow.items ≡ ranges
AreNarrowed ranges None = rises_from 0 ranges ≡ false

-- the set of them, or they are no canonical set
abbrev pub IsClassOf : List Range → Option (List Range) → Type 0
IsClassOf ranges (Some class) = class ≡ ranges
IsClassOf ranges None = rises_from 0 ranges ≡ false
