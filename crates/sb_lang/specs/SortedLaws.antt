-- Laws of the list of members that a constructor sorts.
use Rattle.std.specs.Prelude.{◌≡◌, Bool, List}
use Rattle.std.specs.List.{list_any}
use Rattle.std.specs.List.Sorted.{IsStrictlySortedBy}
use Rattle.sb_lang.specs.Regex.{Regex}
use Rattle.sb_lang.specs.Order.{regex_cmp, regex_eq}
use Rattle.sb_lang.specs.Constructors.{sorted}

-- the regex is in the list
abbrev pub is_member : Regex → List Regex → Bool
is_member r rs = list_any (regex_eq r) rs

-- a list that ascends and has the members of another one is that one, sorted
abbrev pub SortedIsTheOnly : Type 0
SortedIsTheOnly =
    (rs ss : List Regex) → IsStrictlySortedBy regex_cmp ss → ((r : Regex) → is_member r ss ≡ is_member r rs)
    → ss ≡ sorted rs
