-- A union of a union and one more is the union of all.
use Rattle.std.proofs.Common.{◌≡◌, ℕ, Bool, true, false, not, ◌&&◌, ◌||◌, cond, List, [], ◌∷◌, ◌++◌, refl, sym, ap, ap₂, ◌∙◌, append-nil}
use Rattle.std.specs.List.{list_any, list_all, filter, flat_map}
use Rattle.std.proofs.Math.Bool.{or-false, or-true}
use Rattle.std.proofs.lemmas.Bool.{and_parts, false≢true}
use Rattle.std.proofs.lemmas.Grind.{flat_map-append}
use Rattle.std.proofs.lemmas.List.Folds.{list_any-append, list_all-append}
use Rattle.sb_class.specs.Ranges.{Range, in_ranges}
use Rattle.sb_lang.specs.Regex.{Regex, Regexes, none, set, alt, parts}
use Rattle.sb_lang.specs.Order.{code, codes, regex_eq}
use Rattle.sb_lang.specs.Constructors.{anything, is_none, is_anything, mkset, alternatives, ranges_of, is_set, union_of, join_sets, sorted, alt_of, mkalt}
use Rattle.sb_lang.specs.NormalForm.{is_normal, all_normal}
use Rattle.sb_lang.specs.SortedLaws.{is_member}
use Rattle.sb_lang.proofs.OrderFacts.{same_regex, regex_eq-itself, regex_eq-sym}
use Rattle.sb_lang.proofs.SetFacts.{in_ranges-union}
use Rattle.sb_lang.proofs.MemberFacts.{parts-regexes}
use Rattle.sb_lang.proofs.SortedFacts.{sets_in, without_sets, list_all-from, list_all-flat, sets_in-without, ascending, ascending-sorted}
use Rattle.sb_lang.proofs.OnlySorted.{list_any-sorted, only_ascending, is_member-filter, is_member-both}
use Rattle.sb_lang.proofs.MemberLists.{AreMembers, all_canonical, sets_in-canonical, IsCanonical-union_of, few_in_one}
use Rattle.sb_lang.proofs.UnionForm.{is_alt, collected, AreMembers-collected, AreMembers-parts, mkalt-members, flat_map-alternatives, good, good-alternatives}
use Rattle.sb_class.proofs.CallerLemmas.{same_from}

-- what becomes of a list of members that are no unions
abbrev pub finish : List Regex → Regex
finish rs = cond (list_any is_anything (join_sets rs)) anything (alt_of (collected rs))

pub mkalt-finish : (rs : List Regex) → mkalt rs ≡ finish (flat_map alternatives rs)
unfolding mkalt
mkalt-finish rs = refl

-- Members of the list that is collected.

-- a regex that is no set and not none
abbrev pub other : Regex → Type 0
other r = (is_set r ≡ false) × (is_none r ≡ false)

other-mkset : (r : Regex) (s : List Range) → other r → regex_eq r (mkset s) ≡ false
unfolding is_set mkset
other-mkset r [] o = o.1
other-mkset r (x ∷ xs) o = step (regex_eq r (set (x ∷ xs))) refl
  where
    step : (b : Bool) → regex_eq r (set (x ∷ xs)) ≡ b → b ≡ false
    step true is = absurd (false≢true (sym o.0 ∙ ap is_set (same_regex r (set (x ∷ xs)) is)))
    step false is = refl

is_member-join : (r : Regex) (rs : List Regex) → other r → is_member r (join_sets rs) ≡ is_member r rs
unfolding join_sets
is_member-join r rs o =
    ap₂ ◌||◌ (other-mkset r (union_of (sets_in rs)) o) (is_member-filter r (λ x. not (is_set x)) rs
    ∙ ap (λ b. not b && is_member r rs) o.0)

pub is_member-collected : (r : Regex) (rs : List Regex) → other r → is_member r (collected rs) ≡ is_member r rs
is_member-collected r rs o =
    list_any-sorted (regex_eq r) (filter (λ x. not (is_none x)) (join_sets rs))
    ∙ is_member-filter r (λ x. not (is_none x)) (join_sets rs)
    ∙ ap (λ b. not b && is_member r (join_sets rs)) o.1
    ∙ is_member-join r rs o

other-anything : other anything
unfolding is_set code codes
other-anything = (refl, refl)

any-anything : (rs : List Regex) → list_any is_anything rs ≡ is_member anything rs
any-anything [] = refl
any-anything (r ∷ rs) = ap₂ ◌||◌ (swap r (is_anything r) refl (regex_eq anything r) refl) (any-anything rs)
  where
    swap : (r : Regex) (b : Bool) → is_anything r ≡ b → (d : Bool) → regex_eq anything r ≡ d → b ≡ d
    swap r true is true eq = refl
    swap r true is false eq = absurd (false≢true (sym eq ∙ regex_eq-sym r anything is))
    swap r false is true eq = absurd (false≢true (sym is ∙ regex_eq-sym anything r eq))
    swap r false is false eq = refl

any-join : (rs : List Regex) → list_any is_anything (join_sets rs) ≡ is_member anything rs
any-join rs = any-anything (join_sets rs) ∙ is_member-join anything rs other-anything

-- What a list comes to hangs on its sets and its other members alone.

collected-same : (rs ss : List Regex) → union_of (sets_in rs) ≡ union_of (sets_in ss)
    → ((r : Regex) → other r → is_member r rs ≡ is_member r ss) → collected rs ≡ collected ss
unfolding join_sets
collected-same rs ss sets others =
    only_ascending (collected rs) (collected ss) (ascending-sorted _) (ascending-sorted _)
    (λ r. at r (is_set r) refl (is_none r) refl)
  where
    tested : (r : Regex) (xs : List Regex)
        → is_member r (collected xs)
        ≡ (not (is_none r) && (regex_eq r (mkset (union_of (sets_in xs))) || (not (is_set r) && is_member r xs)))
    tested r xs =
        list_any-sorted (regex_eq r) (filter (λ x. not (is_none x)) (join_sets xs))
        ∙ is_member-filter r (λ x. not (is_none x)) (join_sets xs)
        ∙ ap (λ b. not (is_none r) && (regex_eq r (mkset (union_of (sets_in xs))) || b))
        (is_member-filter r (λ x. not (is_set x)) xs)

    at : (r : Regex) (b : Bool) → is_set r ≡ b → (d : Bool) → is_none r ≡ d
        → is_member r (collected rs) ≡ is_member r (collected ss)
    at r true is d also =
        tested r rs
        ∙ ap₂ (λ x y. not (is_none r) && (regex_eq r (mkset x) || (not y && is_member r rs))) sets is
        ∙ sym (tested r ss ∙ ap
        (λ y. not (is_none r) && (regex_eq r (mkset (union_of (sets_in ss))) || (not y && is_member r ss))) is)
    at r false is true also =
        tested r rs ∙ ap (λ x. not x
        && (regex_eq r (mkset (union_of (sets_in rs))) || (not (is_set r) && is_member r rs))) also
        ∙ sym (tested r ss ∙ ap
        (λ x. not x && (regex_eq r (mkset (union_of (sets_in ss))) || (not (is_set r) && is_member r ss))) also)
    at r false is false also =
        is_member-collected r rs (is, also) ∙ others r (is, also) ∙ sym (is_member-collected r ss (is, also))

pub finish-same : (rs ss : List Regex) → union_of (sets_in rs) ≡ union_of (sets_in ss)
    → ((r : Regex) → other r → is_member r rs ≡ is_member r ss) → finish rs ≡ finish ss
finish-same rs ss sets others =
    ap₂ (λ b xs. cond b anything (alt_of xs)) (any-join rs ∙ others anything other-anything ∙ sym (any-join ss))
    (collected-same rs ss sets others)

finish-anything : (rs : List Regex) → is_member anything rs ≡ true → finish rs ≡ anything
finish-anything rs h = ap (λ b. cond b anything (alt_of (collected rs))) (any-join rs ∙ h)

-- The sets of a list that is collected.

pub in_union_of : (ss : List (List Range)) (c : ℕ) → in_ranges (union_of ss) c ≡ list_any (λ s. in_ranges s c) ss
unfolding union_of in_ranges
in_union_of [] c = refl
in_union_of (s ∷ ss) c = in_ranges-union s (union_of ss) c ∙ ap (λ b. in_ranges s c || b) (in_union_of ss c)

-- the character is in the regex as a set
in_as_set : ℕ → Regex → Bool
in_as_set c r = list_any (λ s. in_ranges s c) (ranges_of r)

any-sets_in : (rs : List Regex) (c : ℕ) → list_any (λ s. in_ranges s c) (sets_in rs) ≡ list_any (in_as_set c) rs
unfolding in_as_set
any-sets_in [] c = refl
any-sets_in (r ∷ rs) c = list_any-append (λ s. in_ranges s c) (ranges_of r) (sets_in rs)
    ∙ ap (λ b. in_as_set c r || b) (any-sets_in rs c)

in_as_set-mkset : (c : ℕ) (s : List Range) → in_as_set c (mkset s) ≡ in_ranges s c
unfolding in_as_set mkset ranges_of in_ranges
in_as_set-mkset c [] = refl
in_as_set-mkset c (r ∷ rs) = or-false (in_ranges (r ∷ rs) c)

in_as_set-none : (c : ℕ) (r : Regex) → is_none r ≡ true → in_as_set c r ≡ false
unfolding in_as_set ranges_of
in_as_set-none c r h = ap (in_as_set c) (same_regex r none h)

any-without_none : (c : ℕ) (rs : List Regex)
    → list_any (in_as_set c) (filter (λ r. not (is_none r)) rs) ≡ list_any (in_as_set c) rs
any-without_none c [] = refl
any-without_none c (r ∷ rs) = step (any-without_none c rs) (is_none r) refl
  where
    step : list_any (in_as_set c) (filter (λ x. not (is_none x)) rs) ≡ list_any (in_as_set c) rs → (b : Bool)
        → is_none r ≡ b →
        list_any (in_as_set c) (cond (not b) (r ∷ filter (λ x. not (is_none x)) rs) (filter (λ x. not (is_none x)) rs))
        ≡ (in_as_set c r || list_any (in_as_set c) rs)
    step rest true is = rest ∙ ap (λ b. b || list_any (in_as_set c) rs) (sym (in_as_set-none c r is))
    step rest false is = ap (λ b. in_as_set c r || b) rest

sets-collected : (rs : List Regex) (c : ℕ)
    → list_any (λ s. in_ranges s c) (sets_in (collected rs)) ≡ list_any (λ s. in_ranges s c) (sets_in rs)
unfolding join_sets
sets-collected rs c =
    any-sets_in (collected rs) c
    ∙ list_any-sorted (in_as_set c) (filter (λ r. not (is_none r)) (join_sets rs))
    ∙ any-without_none c (join_sets rs)
    ∙ ap₂ ◌||◌ (in_as_set-mkset c (union_of (sets_in rs)) ∙ in_union_of (sets_in rs) c)
    (sym (any-sets_in (without_sets rs) c) ∙ ap (list_any (λ s. in_ranges s c)) (sets_in-without rs))
    ∙ or-false (list_any (λ s. in_ranges s c) (sets_in rs))

-- The members of what was collected stand for the list.

alternatives_itself : (r : Regex) → not (is_alt r) ≡ true → alternatives r ≡ r ∷ []
unfolding is_alt alternatives
alternatives_itself (alt ps) h = absurd (false≢true h)
alternatives_itself r h = refl

-- in all but none, a list as the members of the union that it makes
members_again : (rs : List Regex) (r : Regex) → AreMembers is_alt rs → is_none r ≡ false
    → is_member r (alternatives (alt_of rs)) ≡ is_member r rs
unfolding alt_of alternatives
members_again [] r m o = ap (λ b. b || false) o
members_again (x ∷ []) r m o = ap (is_member r) (alternatives_itself x (and_parts (not (is_alt x)) true m.flat).0)
members_again (x ∷ y ∷ xs) r m o = ap (is_member r) (parts-regexes (x ∷ y ∷ xs))

sets_again : (rs : List Regex) → AreMembers is_alt rs → sets_in (alternatives (alt_of rs)) ≡ sets_in rs
unfolding alt_of alternatives ranges_of
sets_again [] m = refl
sets_again (x ∷ []) m = ap sets_in (alternatives_itself x (and_parts (not (is_alt x)) true m.flat).0)
sets_again (x ∷ y ∷ xs) m = ap sets_in (parts-regexes (x ∷ y ∷ xs))

-- The law.

canonical_both : (xs ys : List Regex) → list_all is_normal xs ≡ true → list_all is_normal ys ≡ true
    → all_canonical (sets_in (xs ++ ys)) ≡ true
canonical_both xs ys h g = sets_in-canonical (xs ++ ys) (list_all-append is_normal xs ys ∙ ap₂ ◌&&◌ h g)

same_union : (xs ys zs : List Regex) → list_all is_normal xs ≡ true → list_all is_normal ys ≡ true
    → list_all is_normal zs ≡ true →
    ((c : ℕ) → list_any (λ s. in_ranges s c) (sets_in ys) ≡ list_any (λ s. in_ranges s c) (sets_in zs))
    → union_of (sets_in (xs ++ ys)) ≡ union_of (sets_in (xs ++ zs))
same_union xs ys zs h g k same =
    same_from 0 (union_of (sets_in (xs ++ ys))) (union_of (sets_in (xs ++ zs)))
    (IsCanonical-union_of (sets_in (xs ++ ys)) (canonical_both xs ys h g))
    (IsCanonical-union_of (sets_in (xs ++ zs)) (canonical_both xs zs h k))
    (λ c. at ys c ∙ ap (λ b. list_any (λ s. in_ranges s c) (sets_in xs) || b) (same c) ∙ sym (at zs c))
  where
    at : (vs : List Regex) (c : ℕ)
        → in_ranges (union_of (sets_in (xs ++ vs))) c
        ≡ (list_any (λ s. in_ranges s c) (sets_in xs) || list_any (λ s. in_ranges s c) (sets_in vs))
    at vs c =
        in_union_of (sets_in (xs ++ vs)) c
        ∙ ap (list_any (λ s. in_ranges s c)) (flat_map-append ranges_of xs vs)
        ∙ list_any-append (λ s. in_ranges s c) (sets_in xs) (sets_in vs)

pub good_is_normal : (r : Regex) → good r ≡ true → is_normal r ≡ true
unfolding good
good_is_normal r h = (and_parts (is_normal r) (not (is_alt r)) h).0

good_is_flat : (r : Regex) → good r ≡ true → not (is_alt r) ≡ true
unfolding good
good_is_flat r h = (and_parts (is_normal r) (not (is_alt r)) h).1

normal_again : (rs : List Regex) → AreMembers is_alt rs → list_all is_normal (alternatives (alt_of rs)) ≡ true
unfolding alt_of alternatives is_normal all_normal
normal_again [] m = refl
normal_again (x ∷ []) m = ap (list_all is_normal) (alternatives_itself x (and_parts (not (is_alt x)) true m.flat).0)
    ∙ m.normal
normal_again (x ∷ y ∷ xs) m = ap (list_all is_normal) (parts-regexes (x ∷ y ∷ xs)) ∙ m.normal

union_step : (xs ys : List Regex) → list_all good xs ≡ true → list_all good ys ≡ true
    → finish (xs ++ alternatives (finish ys)) ≡ finish (xs ++ ys)
unfolding alternatives
union_step xs ys h g = step (is_member anything ys) refl
  where
    normal : (zs : List Regex) → list_all good zs ≡ true → list_all is_normal zs ≡ true
    normal zs k = list_all-from good is_normal zs good_is_normal k

    step : (b : Bool) → is_member anything ys ≡ b → finish (xs ++ alternatives (finish ys)) ≡ finish (xs ++ ys)
    step true is =
        ap (λ x. finish (xs ++ alternatives x)) (finish-anything ys is)
        ∙ finish-anything (xs ++ anything ∷ []) (is_member-both anything xs (anything ∷ [])
        ∙ ap (λ b. is_member anything xs || (b || false)) (regex_eq-itself anything)
        ∙ or-true (is_member anything xs))
        ∙ sym (finish-anything (xs ++ ys) (is_member-both anything xs ys ∙ ap (λ b. is_member anything xs || b) is
        ∙ or-true (is_member anything xs)))
    step false is =
        let plain = any-join ys ∙ is in
        let m = AreMembers-collected ys (normal ys g) (list_all-from good (λ r. not (is_alt r)) ys good_is_flat g) plain
        in
        ap (λ b. finish (xs ++ alternatives (cond b anything (alt_of (collected ys))))) plain
        ∙ finish-same (xs ++ alternatives (alt_of (collected ys))) (xs ++ ys)
        (same_union xs (alternatives (alt_of (collected ys))) ys (normal xs h) (normal_again (collected ys) m)
        (normal ys g)
        (λ c. ap (list_any (λ s. in_ranges s c)) (sets_again (collected ys) m) ∙ sets-collected ys c))
        (λ r o.
        is_member-both r xs (alternatives (alt_of (collected ys)))
        ∙ ap (λ b. is_member r xs || b) (members_again (collected ys) r m o.1 ∙ is_member-collected r ys o)
        ∙ sym (is_member-both r xs ys))

pub union_of_more : (a : Regex) (rs : List Regex) → is_normal a ≡ true → list_all is_normal rs ≡ true
    → mkalt (a ∷ mkalt rs ∷ []) ≡ mkalt (a ∷ rs)
union_of_more a rs h g =
    mkalt-finish (a ∷ mkalt rs ∷ [])
    ∙ ap (λ xs. finish (alternatives a ++ xs)) (append-nil (alternatives (mkalt rs)))
    ∙ ap (λ x. finish (alternatives a ++ alternatives x)) (mkalt-finish rs)
    ∙ union_step (alternatives a) (flat_map alternatives rs) (good-alternatives a h)
    (list_all-flat good is_normal alternatives rs good-alternatives g)
    ∙ sym (mkalt-finish (a ∷ rs))

-- of one

alt_of_one : (a : Regex) → alt_of (a ∷ []) ≡ a
unfolding alt_of
alt_of_one a = refl

of_none : mkalt (none ∷ []) ≡ none
unfolding mkalt alternatives join_sets ranges_of is_set union_of mkset sorted alt_of code codes
of_none = refl

of_anything : mkalt (anything ∷ []) ≡ anything
unfolding mkalt alternatives join_sets ranges_of is_set union_of mkset code codes
of_anything = refl

whole_again : (ps : Regexes) → is_normal (alt ps) ≡ true → mkalt (parts ps) ≡ alt ps
unfolding is_normal all_normal
whole_again ps h = same_regex (mkalt (parts ps)) (alt ps)
    (and_parts (all_normal ps) (regex_eq (mkalt (parts ps)) (alt ps)) h).1

one_member : (a : Regex) → is_normal a ≡ true → is_none a ≡ false → is_anything a ≡ false → is_alt a ≡ false
    → AreMembers is_alt (a ∷ [])
unfolding ascending
one_member a h no_none no_anything no_alt = record {
  normal = ap (λ b. b && true) h;
  flat = ap (λ b. not b && true) no_alt;
  no_none = ap (λ b. not b && true) no_none;
  no_anything = ap (λ b. not b && true) no_anything;
  few = few_in_one a;
  rising = refl;
}

of_union : (a : Regex) → is_normal a ≡ true → is_alt a ≡ true → mkalt (a ∷ []) ≡ a
unfolding is_alt alternatives
of_union (alt ps) h is =
    mkalt-finish (alt ps ∷ [])
    ∙ ap finish (append-nil (parts ps))
    ∙ ap finish (sym (flat_map-alternatives (parts ps) (AreMembers-parts ps h).flat))
    ∙ sym (mkalt-finish (parts ps))
    ∙ whole_again ps h
of_union r h is = absurd (false≢true is)

pub union_of_one : (a : Regex) → is_normal a ≡ true → mkalt (a ∷ []) ≡ a
union_of_one a h = step (is_none a) refl (is_anything a) refl (is_alt a) refl
  where
    step : (b : Bool) → is_none a ≡ b → (d : Bool) → is_anything a ≡ d → (e : Bool) → is_alt a ≡ e → mkalt (a ∷ []) ≡ a
    step true is d also e last = ap (λ x. mkalt (x ∷ [])) (same_regex a none is) ∙ of_none ∙ sym (same_regex a none is)
    step false is true also e last = ap (λ x. mkalt (x ∷ [])) (same_regex a anything also) ∙ of_anything
        ∙ sym (same_regex a anything also)
    step false is false also true last = of_union a h last
    step false is false also false last = mkalt-members (a ∷ []) (one_member a h is also last) ∙ alt_of_one a
