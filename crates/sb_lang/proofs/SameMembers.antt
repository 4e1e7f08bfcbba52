-- What the constructors of lists make hangs on the members alone, not on their order or number.
use Rattle.std.proofs.Common.{◌≡◌, ℕ, Bool, true, false, not, ◌&&◌, ◌||◌, List, [], ◌∷◌, refl, sym, ap, ◌∙◌, inl, inr}
use Rattle.std.specs.List.{list_any, list_all, flat_map}
use Rattle.std.proofs.lemmas.Bool.{and_parts, or_cases, or_left, or_right, false≢true}
use Rattle.std.proofs.lemmas.List.Folds.{list_any-append, list_all-append}
use Rattle.sb_class.specs.Ranges.{Range, in_ranges, rises_from}
use Rattle.sb_lang.specs.Regex.{Regex, set}
use Rattle.sb_lang.specs.Order.{regex_eq}
use Rattle.sb_lang.specs.Constructors.{mkset, alternatives, conjuncts, ranges_of, union_of, inter_of, meet_of, mkalt, mkand}
use Rattle.sb_lang.specs.NormalForm.{is_normal}
use Rattle.sb_lang.specs.SortedLaws.{is_member}
use Rattle.sb_lang.specs.FoldLaws.{SameMembers}
use Rattle.sb_lang.proofs.OrderFacts.{same_regex, regex_eq-itself}
use Rattle.sb_lang.proofs.CutFacts.{same_truth}
use Rattle.sb_lang.proofs.SortedFacts.{sets_in, list_all-from, list_all-flat}
use Rattle.sb_lang.proofs.MemberLists.{all_canonical, sets_in-canonical, IsCanonical-union_of, IsCanonical-inter_of}
use Rattle.sb_lang.proofs.UnionForm as union
use Rattle.sb_lang.proofs.UnionFold as union_fold
use Rattle.sb_lang.proofs.IntersectionForm as meet
use Rattle.sb_lang.proofs.IntersectionFold as meet_fold
use Rattle.sb_class.proofs.CallerLemmas.{same_from}

-- Tests of some and of all hang on the members.

some_witness : (p : Regex → Bool) (rs : List Regex) → list_any p rs ≡ true → (r : Regex) × (is_member r rs ≡ true)
    × (p r ≡ true)
some_witness p [] h = absurd (false≢true h)
some_witness p (x ∷ xs) h = elim (or_cases (p x) (list_any p xs) h) [
  | inl here ↦ (x, or_left (regex_eq x x) (is_member x xs) (regex_eq-itself x), here)
  | inr later ↦ let w = some_witness p xs later in (w.0, or_right (regex_eq w.0 x) (is_member w.0 xs) w.1, w.2)
]

some_from : (p : Regex → Bool) (rs : List Regex) (r : Regex) → is_member r rs ≡ true → p r ≡ true → list_any p rs ≡ true
some_from p [] r h g = absurd (false≢true h)
some_from p (x ∷ xs) r h g = elim (or_cases (regex_eq r x) (is_member r xs) h) [
  | inl here ↦ or_left (p x) (list_any p xs) (ap p (sym (same_regex r x here)) ∙ g)
  | inr later ↦ or_right (p x) (list_any p xs) (some_from p xs r later g)
]

list_any-members : (p : Regex → Bool) (rs ss : List Regex) → SameMembers rs ss → list_any p rs ≡ list_any p ss
list_any-members p rs ss same = same_truth (list_any p rs) (list_any p ss)
    (λ h. let w = some_witness p rs h in some_from p ss w.0 (sym (same w.0) ∙ w.1) w.2)
    (λ h. let w = some_witness p ss h in some_from p rs w.0 (same w.0 ∙ w.1) w.2)

all_by_some : (p : Regex → Bool) (rs : List Regex) → list_all p rs ≡ not (list_any (λ r. not (p r)) rs)
all_by_some p [] = refl
all_by_some p (x ∷ xs) = ap (λ b. p x && b) (all_by_some p xs) ∙ de_morgan (p x) (list_any (λ r. not (p r)) xs)
  where
    de_morgan : (x y : Bool) → (x && not y) ≡ not (not x || y)
    de_morgan true y = refl
    de_morgan false y = refl

list_all-members : (p : Regex → Bool) (rs ss : List Regex) → SameMembers rs ss → list_all p rs ≡ list_all p ss
list_all-members p rs ss same =
    all_by_some p rs ∙ ap not (list_any-members (λ r. not (p r)) rs ss same) ∙ sym (all_by_some p ss)

-- the lists of what the members give

any-flat : {X : Type 0} (q : X → Bool) (f : Regex → List X) (rs : List Regex)
    → list_any q (flat_map f rs) ≡ list_any (λ r. list_any q (f r)) rs
any-flat q f [] = refl
any-flat q f (r ∷ rs) = list_any-append q (f r) (flat_map f rs) ∙ ap (λ b. list_any q (f r) || b) (any-flat q f rs)

all-flat : {X : Type 0} (q : X → Bool) (f : Regex → List X) (rs : List Regex)
    → list_all q (flat_map f rs) ≡ list_all (λ r. list_all q (f r)) rs
all-flat q f [] = refl
all-flat q f (r ∷ rs) = list_all-append q (f r) (flat_map f rs) ∙ ap (λ b. list_all q (f r) && b) (all-flat q f rs)

flat_members : (f : Regex → List Regex) (rs ss : List Regex) → SameMembers rs ss
    → SameMembers (flat_map f rs) (flat_map f ss)
flat_members f rs ss same r =
    any-flat (regex_eq r) f rs
    ∙ list_any-members (λ x. list_any (regex_eq r) (f x)) rs ss same
    ∙ sym (any-flat (regex_eq r) f ss)

-- The union.

pub union_of_members : (rs ss : List Regex) → list_all is_normal rs ≡ true → list_all is_normal ss ≡ true
    → SameMembers rs ss → mkalt rs ≡ mkalt ss
union_of_members rs ss h g same =
    union_fold.mkalt-finish rs
    ∙ union_fold.finish-same (flat_map alternatives rs) (flat_map alternatives ss)
    (same_from 0 (union_of (sets_in (flat_map alternatives rs))) (union_of (sets_in (flat_map alternatives ss)))
    (IsCanonical-union_of (sets_in (flat_map alternatives rs))
    (sets_in-canonical (flat_map alternatives rs) (normal_flat rs h)))
    (IsCanonical-union_of (sets_in (flat_map alternatives ss))
    (sets_in-canonical (flat_map alternatives ss) (normal_flat ss g)))
    (λ c.
    union_fold.in_union_of (sets_in (flat_map alternatives rs)) c
    ∙ any-flat (λ s. in_ranges s c) ranges_of (flat_map alternatives rs)
    ∙ list_any-members (λ r. list_any (λ s. in_ranges s c) (ranges_of r)) (flat_map alternatives rs)
    (flat_map alternatives ss) (flat_members alternatives rs ss same)
    ∙ sym (any-flat (λ s. in_ranges s c) ranges_of (flat_map alternatives ss))
    ∙ sym (union_fold.in_union_of (sets_in (flat_map alternatives ss)) c)))
    (λ r o. flat_members alternatives rs ss same r)
    ∙ sym (union_fold.mkalt-finish ss)
  where
    normal_flat : (xs : List Regex) → list_all is_normal xs ≡ true
        → list_all is_normal (flat_map alternatives xs) ≡ true
    normal_flat xs k =
        list_all-from union.good is_normal (flat_map alternatives xs) union_fold.good_is_normal
        (list_all-flat union.good is_normal alternatives xs union.good-alternatives k)

-- The intersection.

is_nil : List (List Range) → Bool
is_nil [] = true
is_nil (s ∷ ss) = false

meet_of-same : (xs ys : List (List Range)) → all_canonical xs ≡ true → all_canonical ys ≡ true → is_nil xs ≡ is_nil ys →
    ((c : ℕ) → list_all (λ s. in_ranges s c) xs ≡ list_all (λ s. in_ranges s c) ys) → meet_of xs ≡ meet_of ys
unfolding is_nil meet_of
meet_of-same [] [] h g e same = refl
meet_of-same [] (y ∷ ys) h g e same = absurd (false≢true (sym e))
meet_of-same (x ∷ xs) [] h g e same = absurd (false≢true e)
meet_of-same (x ∷ xs) (y ∷ ys) h g e same =
    ap (λ s. mkset s ∷ [])
    (same_from 0 (inter_of x xs) (inter_of y ys) (canonical x xs h) (canonical y ys g)
    (λ c. meet_fold.in_inter_of x xs c ∙ same c ∙ sym (meet_fold.in_inter_of y ys c)))
  where
    canonical : (x : List Range) (xs : List (List Range)) → all_canonical (x ∷ xs) ≡ true
        → rises_from 0 (inter_of x xs) ≡ true
    canonical x xs k = let p = and_parts (rises_from 0 x) (all_canonical xs) k in IsCanonical-inter_of x xs p.0 p.1

is_nil-sets_in : (rs : List Regex) → is_nil (sets_in rs) ≡ list_all (λ r. is_nil (ranges_of r)) rs
unfolding is_nil ranges_of
is_nil-sets_in [] = refl
is_nil-sets_in (set s ∷ rs) = refl
is_nil-sets_in (r ∷ rs) = is_nil-sets_in rs

pub intersection_of_members : (rs ss : List Regex) → list_all is_normal rs ≡ true → list_all is_normal ss ≡ true
    → SameMembers rs ss → mkand rs ≡ mkand ss
intersection_of_members rs ss h g same =
    meet_fold.mkand-finish rs
    ∙ meet_fold.finish-same (flat_map conjuncts rs) (flat_map conjuncts ss)
    (meet_of-same (sets_in (flat_map conjuncts rs)) (sets_in (flat_map conjuncts ss))
    (sets_in-canonical (flat_map conjuncts rs) (normal_flat rs h))
    (sets_in-canonical (flat_map conjuncts ss) (normal_flat ss g))
    (is_nil-sets_in (flat_map conjuncts rs)
    ∙ list_all-members (λ r. is_nil (ranges_of r)) (flat_map conjuncts rs) (flat_map conjuncts ss)
    (flat_members conjuncts rs ss same)
    ∙ sym (is_nil-sets_in (flat_map conjuncts ss)))
    (λ c.
    all-flat (λ s. in_ranges s c) ranges_of (flat_map conjuncts rs)
    ∙ list_all-members (λ r. list_all (λ s. in_ranges s c) (ranges_of r)) (flat_map conjuncts rs)
    (flat_map conjuncts ss) (flat_members conjuncts rs ss same)
    ∙ sym (all-flat (λ s. in_ranges s c) ranges_of (flat_map conjuncts ss))))
    (λ r o. flat_members conjuncts rs ss same r)
    ∙ sym (meet_fold.mkand-finish ss)
  where
    normal_flat : (xs : List Regex) → list_all is_normal xs ≡ true → list_all is_normal (flat_map conjuncts xs) ≡ true
    normal_flat xs k =
        list_all-from meet.good is_normal (flat_map conjuncts xs) meet_fold.good_is_normal
        (list_all-flat meet.good is_normal conjuncts xs meet.good-conjuncts k)
