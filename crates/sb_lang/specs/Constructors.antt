-- The normalising constructors: each gives a normal regex of normal parts, so that equal ones are one regex.
use Rattle.std.specs.Prelude.{ℕ, Bool, true, false, not, ◌&&◌, ◌||◌, ◌==◌, nat_lt, if◌then◌else◌, List, [], ◌∷◌, ◌++◌, filter, flat_map}
use Rattle.std.specs.List.{list_any}
use Rattle.std.specs.BTreeSet.{insert_key}
use Rattle.sb_class.specs.Ranges.{Range}
use Rattle.sb_lang.specs.Regex.{Regex, none, eps, set, cat, alt, and, neg, star, rep, path, regexes, parts}
use Rattle.sb_lang.specs.Order.{regex_cmp, regex_eq}
use Rattle.sb_lang.specs.RangeSets.{union, inter}

-- every word
abbrev pub anything : Regex
anything = neg none

-- every character
abbrev pub any_character : Regex
any_character = set ((0, 0x2ffff) ∷ [])

abbrev pub is_none : Regex → Bool
is_none r = regex_eq r none

abbrev pub is_anything : Regex → Bool
is_anything r = regex_eq r anything

-- the empty set is none
unfoldable pub mkset : List Range → Regex
mkset [] = none
mkset (r ∷ rs) = set (r ∷ rs)

-- concatenations lean to the right
unfoldable pub mkcat : Regex → Regex → Regex
mkcat none b = none
mkcat a none = none
mkcat eps b = b
mkcat a eps = a
mkcat (cat p q) b = cat p (mkcat q b)
mkcat a b = cat a b

-- the members of a union, and of an intersection
unfoldable pub alternatives : Regex → List Regex
alternatives (alt ps) = parts ps
alternatives r = r ∷ []

unfoldable pub conjuncts : Regex → List Regex
conjuncts (and ps) = parts ps
conjuncts r = r ∷ []

-- the ranges of a set
unfoldable pub ranges_of : Regex → List (List Range)
ranges_of (set rs) = rs ∷ []
ranges_of r = []

unfoldable pub is_set : Regex → Bool
is_set (set rs) = true
is_set r = false

unfoldable pub union_of : List (List Range) → List Range
union_of [] = []
union_of (s ∷ ss) = union s (union_of ss)

unfoldable pub inter_of : List Range → List (List Range) → List Range
inter_of s [] = s
inter_of s (t ∷ ts) = inter s (inter_of t ts)

-- all sets as one, by union
unfoldable pub join_sets : List Regex → List Regex
join_sets rs = mkset (union_of (flat_map ranges_of rs)) ∷ filter (λ r. not (is_set r)) rs

-- the intersection of sets, if there is one
unfoldable pub meet_of : List (List Range) → List Regex
meet_of [] = []
meet_of (s ∷ ss) = mkset (inter_of s ss) ∷ []

-- all sets as one, by intersection
unfoldable pub meet_sets : List Regex → List Regex
meet_sets rs = meet_of (flat_map ranges_of rs) ++ filter (λ r. not (is_set r)) rs

-- with one more regex in its place, unless it is there
unfoldable pub with_regex : Regex → List Regex → List Regex
with_regex r rs = insert_key regex_cmp rs r

-- ascending, and each once
unfoldable pub sorted : List Regex → List Regex
sorted [] = []
sorted (r ∷ rs) = with_regex r (sorted rs)

-- of no member none, of one the member itself
unfoldable pub alt_of : List Regex → Regex
alt_of [] = none
alt_of (r ∷ []) = r
alt_of (r ∷ s ∷ rs) = alt (regexes (r ∷ s ∷ rs))

unfoldable pub and_of : List Regex → Regex
and_of [] = anything
and_of (r ∷ []) = r
and_of (r ∷ s ∷ rs) = and (regexes (r ∷ s ∷ rs))

-- Unions among the members give theirs, the sets become one, and none is dropped; the rest stands in order, each
-- once. Where every word is a member, it is the whole.
unfoldable pub mkalt : List Regex → Regex
mkalt rs =
    let members = join_sets (flat_map alternatives rs) in
    if list_any is_anything members then anything else alt_of (sorted (filter (λ r. not (is_none r)) members))

-- The dual: every word is dropped, and where none is a member, also as sets that have nothing in common, it is the
-- whole.
unfoldable pub mkand : List Regex → Regex
mkand rs =
    let members = meet_sets (flat_map conjuncts rs) in
    if list_any is_none members then none else and_of (sorted (filter (λ r. not (is_anything r)) members))

unfoldable pub mknot : Regex → Regex
mknot (neg a) = a
mknot a = neg a

unfoldable pub mkstar : Regex → Regex
mkstar none = eps
mkstar eps = eps
mkstar (star a) = star a
mkstar a = if regex_eq a any_character then anything else star a

-- from n to m times: the first case that fits
unfoldable pub mkrep : Regex → ℕ → ℕ → Regex
mkrep a n m =
    if nat_lt m n then none
    else if m == 0 then eps
    else if (n == 1) && (m == 1) then a
    else if regex_eq a eps then eps
    else if is_none a then (if n == 0 then eps else none)
    else rep a n m

-- every character takes none, and every word, to itself: then the word makes no difference
unfoldable pub mkpath : Regex → Regex → Regex
mkpath a b =
    if is_none a || is_anything a then (if regex_eq a b then anything else none)
    else path a b
