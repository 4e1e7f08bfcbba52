-- The order of members, and how they are grouped, make no difference: a union of many is a fold of unions of two.
use Rattle.std.specs.Prelude.{◌≡◌, true, List, [], ◌∷◌}
use Rattle.std.specs.List.{list_all}
use Rattle.sb_lang.specs.Regex.{Regex}
use Rattle.sb_lang.specs.Constructors.{mkcat, mkalt, mkand}
use Rattle.sb_lang.specs.NormalForm.{is_normal, IsNormal}
use Rattle.sb_lang.specs.SortedLaws.{is_member}

-- each regex in the list is normal
abbrev pub AllNormal : List Regex → Type 0
AllNormal rs = list_all is_normal rs ≡ true

-- the lists have the same members, in some order and some more than once
abbrev pub SameMembers : List Regex → List Regex → Type 0
SameMembers rs ss = (r : Regex) → is_member r rs ≡ is_member r ss

abbrev pub UnionOfOne : Type 0
UnionOfOne = (a : Regex) → IsNormal a → mkalt (a ∷ []) ≡ a

abbrev pub UnionOfMore : Type 0
UnionOfMore = (a : Regex) (rs : List Regex) → IsNormal a → AllNormal rs → mkalt (a ∷ mkalt rs ∷ []) ≡ mkalt (a ∷ rs)

abbrev pub UnionOfMembers : Type 0
UnionOfMembers = (rs ss : List Regex) → AllNormal rs → AllNormal ss → SameMembers rs ss → mkalt rs ≡ mkalt ss

abbrev pub IntersectionOfMore : Type 0
IntersectionOfMore = (a : Regex) (rs : List Regex) → IsNormal a → AllNormal rs
    → mkand (a ∷ mkand rs ∷ []) ≡ mkand (a ∷ rs)

abbrev pub IntersectionOfMembers : Type 0
IntersectionOfMembers = (rs ss : List Regex) → AllNormal rs → AllNormal ss → SameMembers rs ss → mkand rs ≡ mkand ss

-- concatenations group in any way
abbrev pub ConcatenationGroups : Type 0
ConcatenationGroups = (a b c : Regex) → mkcat (mkcat a b) c ≡ mkcat a (mkcat b c)
