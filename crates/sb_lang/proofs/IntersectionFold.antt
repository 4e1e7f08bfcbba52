-- An intersection of an intersection and one more is the intersection of all.
use Rattle.std.proofs.Common.{◌≡◌, ℕ, Bool, true, false, not, ◌&&◌, ◌||◌, cond, ◌⊎◌, List, [], ◌∷◌, ◌++◌, refl, sym, ap, ap₂, ◌∙◌, inl, inr, append-nil, length, ◌≤◌, arith}
use Rattle.std.specs.List.{list_any, list_all, filter, flat_map}
use Rattle.std.proofs.Math.Bool.{and-false, and-true, or-true}
use Rattle.std.proofs.lemmas.Bool.{and_parts, or_cases, or_parts, false≢true}
use Rattle.std.proofs.lemmas.Grind.{flat_map-append}
use Rattle.std.proofs.lemmas.List.Folds.{list_any-append, list_all-append}
use Rattle.sb_class.specs.Ranges.{Range, in_ranges, rises_from}
use Rattle.sb_lang.specs.Regex.{Regex, none, set, and}
use Rattle.std.specs.declared.cmp.Ordering.{Ordering}
use Rattle.std.specs.declared.cmp.Ordering.TheVariants.{Less, Equal, Greater}
use Rattle.std.specs.Ordering.{match_ordering}
use Rattle.sb_lang.specs.Order.{code, codes, regex_cmp, regex_eq}
use Rattle.sb_lang.specs.Constructors.{is_anything, is_none, mkset, conjuncts, ranges_of, is_set, inter_of, meet_of, meet_sets, with_regex, sorted, and_of, mkand}
use Rattle.sb_lang.specs.NormalForm.{is_normal}
use Rattle.sb_lang.specs.SortedLaws.{is_member}
use Rattle.sb_lang.proofs.OrderFacts.{same_regex, cmp_decides, regex_eq-itself, regex_eq-sym}
use Rattle.sb_lang.proofs.SetFacts.{in_ranges-inter}
use Rattle.sb_lang.proofs.MemberFacts.{parts-regexes}
use Rattle.sb_lang.proofs.SortedFacts.{sets_in, without_sets, list_all-from, list_all-flat, sets_in-without, sets_in-sorted, sets_in-filter, ascending-sorted}
use Rattle.sb_lang.proofs.OnlySorted.{list_any-sorted, only_ascending, is_member-filter, is_member-both}
use Rattle.sb_lang.proofs.MemberLists.{AreMembers, all_canonical, sets_in-canonical, IsCanonical-inter_of}
use Rattle.sb_lang.proofs.IntersectionForm.{is_and, collected, AreMembers-collected, good, good-conjuncts}
use Rattle.sb_class.proofs.CallerLemmas.{in_ranges-nil, rises_from-nil, same_from}

-- what becomes of a list of members that are no intersections
abbrev pub finish : List Regex → Regex
finish rs = cond (list_any is_none (meet_sets rs)) none (and_of (collected rs))

pub mkand-finish : (rs : List Regex) → mkand rs ≡ finish (flat_map conjuncts rs)
unfolding mkand
mkand-finish rs = refl

-- Members of the list that is collected.

cons_is_not_nil : (s : List Range) (ss : List (List Range)) → s ∷ ss ≡ [] → ⊥
cons_is_not_nil s ss e = cc

empty_list : (ss : List (List Range)) → length ss ≤ 0 → ss ≡ []
empty_list [] h = refl
empty_list (s ∷ ss) h = absurd (omega arith)

-- a regex that is no set, and not every word
abbrev pub other : Regex → Type 0
other r = (is_set r ≡ false) × (is_anything r ≡ false)

other-none : other none
unfolding is_set code codes
other-none = (refl, refl)

is_member-without : (r : Regex) (rs : List Regex) → is_member r (without_sets rs) ≡ (not (is_set r) && is_member r rs)
is_member-without r rs = is_member-filter r (λ x. not (is_set x)) rs

is_member-join : (r : Regex) (rs : List Regex)
    → is_member r (meet_sets rs) ≡ (is_member r (meet_of (sets_in rs)) || (not (is_set r) && is_member r rs))
unfolding meet_sets
is_member-join r rs =
    list_any-append (regex_eq r) (meet_of (sets_in rs)) (without_sets rs)
    ∙ ap (λ b. is_member r (meet_of (sets_in rs)) || b) (is_member-without r rs)

is_member-tested : (r : Regex) (rs : List Regex)
    → is_member r (collected rs)
    ≡ (not (is_anything r) && (is_member r (meet_of (sets_in rs)) || (not (is_set r) && is_member r rs)))
is_member-tested r rs =
    list_any-sorted (regex_eq r) (filter (λ x. not (is_anything x)) (meet_sets rs))
    ∙ is_member-filter r (λ x. not (is_anything x)) (meet_sets rs)
    ∙ ap (λ b. not (is_anything r) && b) (is_member-join r rs)

any-none : (rs : List Regex) → list_any is_none rs ≡ is_member none rs
any-none [] = refl
any-none (r ∷ rs) = ap₂ ◌||◌ (swap r (is_none r) refl (regex_eq none r) refl) (any-none rs)
  where
    swap : (r : Regex) (b : Bool) → is_none r ≡ b → (d : Bool) → regex_eq none r ≡ d → b ≡ d
    swap r true is true eq = refl
    swap r true is false eq = absurd (false≢true (sym eq ∙ regex_eq-sym r none is))
    swap r false is true eq = absurd (false≢true (sym is ∙ regex_eq-sym none r eq))
    swap r false is false eq = refl

any-join : (rs : List Regex)
    → list_any is_none (meet_sets rs) ≡ (is_member none (meet_of (sets_in rs)) || is_member none rs)
any-join rs =
    any-none (meet_sets rs)
    ∙ is_member-join none rs
    ∙ ap (λ b. is_member none (meet_of (sets_in rs)) || (not b && is_member none rs)) other-none.0

-- What a list comes to hangs on its sets and its other members alone.

collected-same : (rs ss : List Regex) → meet_of (sets_in rs) ≡ meet_of (sets_in ss)
    → ((r : Regex) → other r → is_member r rs ≡ is_member r ss) → collected rs ≡ collected ss
collected-same rs ss sets others =
    only_ascending (collected rs) (collected ss) (ascending-sorted _) (ascending-sorted _)
    (λ r. at r (is_set r) refl (is_anything r) refl)
  where
    at : (r : Regex) (b : Bool) → is_set r ≡ b → (d : Bool) → is_anything r ≡ d
        → is_member r (collected rs) ≡ is_member r (collected ss)
    at r true is d also =
        is_member-tested r rs
        ∙ ap₂ (λ x y. not (is_anything r) && (is_member r x || (not y && is_member r rs))) sets is
        ∙ sym (is_member-tested r ss
        ∙ ap (λ y. not (is_anything r) && (is_member r (meet_of (sets_in ss)) || (not y && is_member r ss))) is)
    at r false is true also =
        is_member-tested r rs
        ∙ ap (λ x. not x && (is_member r (meet_of (sets_in rs)) || (not (is_set r) && is_member r rs))) also
        ∙ sym (is_member-tested r ss
        ∙ ap (λ x. not x && (is_member r (meet_of (sets_in ss)) || (not (is_set r) && is_member r ss))) also)
    at r false is false also =
        is_member-tested r rs
        ∙ ap₂ (λ x y. not (is_anything r) && (is_member r x || (not (is_set r) && y))) sets (others r (is, also))
        ∙ sym (is_member-tested r ss)

pub finish-same : (rs ss : List Regex) → meet_of (sets_in rs) ≡ meet_of (sets_in ss)
    → ((r : Regex) → other r → is_member r rs ≡ is_member r ss) → finish rs ≡ finish ss
finish-same rs ss sets others =
    ap₂ (λ b xs. cond b none (and_of xs))
    (any-join rs ∙ ap₂ (λ x y. is_member none x || y) sets (others none other-none) ∙ sym (any-join ss))
    (collected-same rs ss sets others)

finish-none : (rs : List Regex) → list_any is_none (meet_sets rs) ≡ true → finish rs ≡ none
finish-none rs h = ap (λ b. cond b none (and_of (collected rs))) h

-- The sets of a list that is collected.

pub in_inter_of : (s : List Range) (ss : List (List Range)) (c : ℕ)
    → in_ranges (inter_of s ss) c ≡ list_all (λ x. in_ranges x c) (s ∷ ss)
unfolding inter_of
in_inter_of s [] c = sym (and-true (in_ranges s c))
in_inter_of s (t ∷ ts) c = in_ranges-inter s (inter_of t ts) c ∙ ap (λ b. in_ranges s c && b) (in_inter_of t ts c)

-- the intersection of some of the sets in their place
meet_of-more : (xs : List (List Range)) (s : List Range) (ss : List (List Range)) → all_canonical xs ≡ true
    → all_canonical (s ∷ ss) ≡ true → meet_of (xs ++ inter_of s ss ∷ []) ≡ meet_of (xs ++ s ∷ ss)
unfolding meet_of inter_of
meet_of-more [] s ss h g = refl
meet_of-more (x ∷ xs) s ss h g =
    let p = and_parts (rises_from 0 x) (all_canonical xs) h in
    let q = and_parts (rises_from 0 s) (all_canonical ss) g in
    ap (λ y. mkset y ∷ [])
    (same_from 0 (inter_of x (xs ++ inter_of s ss ∷ [])) (inter_of x (xs ++ s ∷ ss))
    (IsCanonical-inter_of x (xs ++ inter_of s ss ∷ []) p.0
    (list_all-append (rises_from 0) xs (inter_of s ss ∷ [])
    ∙ ap₂ ◌&&◌ p.1 (ap (λ b. b && true) (IsCanonical-inter_of s ss q.0 q.1))))
    (IsCanonical-inter_of x (xs ++ s ∷ ss) p.0 (list_all-append (rises_from 0) xs (s ∷ ss) ∙ ap₂ ◌&&◌ p.1 g))
    (λ c.
    in_inter_of x (xs ++ inter_of s ss ∷ []) c
    ∙ ap (λ b. in_ranges x c && b)
    (list_all-append (λ y. in_ranges y c) xs (inter_of s ss ∷ [])
    ∙ ap (λ b. list_all (λ y. in_ranges y c) xs && b) (and-true (in_ranges (inter_of s ss) c) ∙ in_inter_of s ss c)
    ∙ sym (list_all-append (λ y. in_ranges y c) xs (s ∷ ss)))
    ∙ sym (in_inter_of x (xs ++ s ∷ ss) c)))

-- where the sets have nothing in common, they have nothing with more of them
meet_of-empty : (xs : List (List Range)) (s : List Range) (ss : List (List Range)) → all_canonical xs ≡ true
    → all_canonical (s ∷ ss) ≡ true → inter_of s ss ≡ [] → meet_of (xs ++ s ∷ ss) ≡ none ∷ []
unfolding meet_of mkset
meet_of-empty [] s ss h g e = ap (λ y. mkset y ∷ []) e
meet_of-empty (x ∷ xs) s ss h g e =
    let p = and_parts (rises_from 0 x) (all_canonical xs) h in
    ap (λ y. mkset y ∷ [])
    (same_from 0 (inter_of x (xs ++ s ∷ ss)) []
    (IsCanonical-inter_of x (xs ++ s ∷ ss) p.0 (list_all-append (rises_from 0) xs (s ∷ ss) ∙ ap₂ ◌&&◌ p.1 g))
    (rises_from-nil 0)
    (λ c.
    in_inter_of x (xs ++ s ∷ ss) c
    ∙ ap (λ b. in_ranges x c && b)
    (list_all-append (λ y. in_ranges y c) xs (s ∷ ss)
    ∙ ap (λ b. list_all (λ y. in_ranges y c) xs && b) (sym (in_inter_of s ss c) ∙ ap (λ y. in_ranges y c) e
    ∙ in_ranges-nil c)
    ∙ and-false (list_all (λ y. in_ranges y c) xs))
    ∙ and-false (in_ranges x c)
    ∙ sym (in_ranges-nil c)))

sets_in-with_set : (s : List Range) (rs : List Regex) → sets_in rs ≡ [] → sets_in (with_regex (set s) rs) ≡ s ∷ []
unfolding with_regex ranges_of
sets_in-with_set s [] h = refl
sets_in-with_set s (r ∷ rs) h = step (sets_in-with_set s rs) (ranges_of r) refl (regex_cmp (set s) r) refl
  where
    step : (sets_in rs ≡ [] → sets_in (with_regex (set s) rs) ≡ s ∷ []) → (x : List (List Range)) → ranges_of r ≡ x
        → (o : Ordering) → regex_cmp (set s) r ≡ o →
        sets_in (match_ordering o (set s ∷ r ∷ rs) (r ∷ rs) (r ∷ with_regex (set s) rs)) ≡ s ∷ []
    step rest x is Less eq = ap (λ y. s ∷ y) h
    step rest x is Equal eq =
        absurd (cons_is_not_nil s (sets_in rs) (ap (λ y. ranges_of y ++ sets_in rs) ((cmp_decides (set s) r).0 eq) ∙ h))
    step rest [] is Greater eq =
        ap (λ y. y ++ sets_in (with_regex (set s) rs)) is ∙ rest (ap (λ y. y ++ sets_in rs) (sym is) ∙ h)
    step rest (x ∷ xs) is Greater eq =
        absurd (cons_is_not_nil x (xs ++ sets_in rs) (ap (λ y. y ++ sets_in rs) (sym is) ∙ h))

no_sets-sorted : (rs : List Regex) → sets_in rs ≡ [] → sets_in (sorted rs) ≡ []
no_sets-sorted rs h = empty_list (sets_in (sorted rs)) (omega (arith, sets_in-sorted rs, ap length h))

no_sets-filter : (t : Regex → Bool) (rs : List Regex) → sets_in rs ≡ [] → sets_in (filter t rs) ≡ []
no_sets-filter t rs h = empty_list (sets_in (filter t rs)) (omega (arith, sets_in-filter t rs, ap length h))

-- no set comes of none
sets-collected_none : (rs : List Regex) → sets_in rs ≡ [] → sets_in (collected rs) ≡ []
unfolding meet_sets meet_of
sets-collected_none rs h =
    no_sets-sorted (filter (λ r. not (is_anything r)) (meet_sets rs))
    (no_sets-filter (λ r. not (is_anything r)) (meet_sets rs) (ap (λ ss. sets_in (meet_of ss ++ without_sets rs)) h
    ∙ sets_in-without rs))

-- and of some their intersection, where it is not empty
sets-collected_some : (rs : List Regex) (s : List Range) (ss : List (List Range)) → sets_in rs ≡ s ∷ ss
    → mkset (inter_of s ss) ≡ set (inter_of s ss) → sets_in (collected rs) ≡ inter_of s ss ∷ []
unfolding meet_sets meet_of sorted code codes
sets-collected_some rs s ss h some =
    let is : meet_sets rs ≡ set (inter_of s ss) ∷ without_sets rs =
    ap (λ x. meet_of x ++ without_sets rs) h ∙ ap (λ y. y ∷ without_sets rs) some in
    ap (λ xs. sets_in (sorted (filter (λ r. not (is_anything r)) xs))) is
    ∙ sets_in-with_set (inter_of s ss) (sorted (filter (λ r. not (is_anything r)) (without_sets rs)))
    (no_sets-sorted (filter (λ r. not (is_anything r)) (without_sets rs))
    (no_sets-filter (λ r. not (is_anything r)) (without_sets rs) (sets_in-without rs)))

-- The members of what was collected stand for the list.

conjuncts_itself : (r : Regex) → not (is_and r) ≡ true → conjuncts r ≡ r ∷ []
unfolding is_and conjuncts
conjuncts_itself (and ps) h = absurd (false≢true h)
conjuncts_itself r h = refl

-- in all but none, a list as the members of the intersection that it makes
members_again : (rs : List Regex) (r : Regex) → AreMembers is_and rs → is_anything r ≡ false
    → is_member r (conjuncts (and_of rs)) ≡ is_member r rs
unfolding and_of conjuncts
members_again [] r m o = ap (λ b. b || false) o
members_again (x ∷ []) r m o = ap (is_member r) (conjuncts_itself x (and_parts (not (is_and x)) true m.flat).0)
members_again (x ∷ y ∷ xs) r m o = ap (is_member r) (parts-regexes (x ∷ y ∷ xs))

sets_again : (rs : List Regex) → AreMembers is_and rs → sets_in (conjuncts (and_of rs)) ≡ sets_in rs
unfolding and_of conjuncts ranges_of
sets_again [] m = refl
sets_again (x ∷ []) m = ap sets_in (conjuncts_itself x (and_parts (not (is_and x)) true m.flat).0)
sets_again (x ∷ y ∷ xs) m = ap sets_in (parts-regexes (x ∷ y ∷ xs))

-- The law.

pub good_is_normal : (r : Regex) → good r ≡ true → is_normal r ≡ true
unfolding good
good_is_normal r h = (and_parts (is_normal r) (not (is_and r)) h).0

good_is_flat : (r : Regex) → good r ≡ true → not (is_and r) ≡ true
unfolding good
good_is_flat r h = (and_parts (is_normal r) (not (is_and r)) h).1

none_itself : is_member none (conjuncts none) ≡ true
unfolding conjuncts
none_itself = ap (λ b. b || false) (regex_eq-itself none)

-- the sets' intersection is none, or a set
mkset_cases : (s : List Range) → (s ≡ []) ⊎ (mkset s ≡ set s)
unfolding mkset
mkset_cases [] = inl refl
mkset_cases (r ∷ rs) = inr refl

mkset_none : (s : List Range) → is_member none (mkset s ∷ []) ≡ true → s ≡ []
unfolding mkset code codes
mkset_none [] h = refl
mkset_none (r ∷ rs) h = absurd (false≢true h)

empty_meet : (s : List Range) (ss : List (List Range)) → inter_of s ss ≡ [] → is_member none (meet_of (s ∷ ss)) ≡ true
unfolding meet_of mkset
empty_meet s ss e = ap (λ x. regex_eq none (mkset x) || false) e ∙ ap (λ b. b || false) (regex_eq-itself none)

no_set_is_other : (r : Regex) (s : List Range) → other r → regex_eq r (set s) ≡ false
unfolding is_set
no_set_is_other r s o = step (regex_eq r (set s)) refl
  where
    step : (b : Bool) → regex_eq r (set s) ≡ b → b ≡ false
    step true is = absurd (false≢true (sym o.0 ∙ ap is_set (same_regex r (set s) is)))
    step false is = refl

empty_of_more : (xs ys : List (List Range)) → all_canonical xs ≡ true → all_canonical ys ≡ true
    → is_member none (meet_of ys) ≡ true → is_member none (meet_of (xs ++ ys)) ≡ true
unfolding meet_of
empty_of_more xs [] h g is = absurd (false≢true is)
empty_of_more xs (s ∷ ss) h g is = ap (is_member none) (meet_of-empty xs s ss h g (mkset_none (inter_of s ss) is))
    ∙ ap (λ b. b || false) (regex_eq-itself none)

same_meet : (xs : List (List Range)) (ys : List Regex) → all_canonical xs ≡ true → all_canonical (sets_in ys) ≡ true
    → is_member none (meet_of (sets_in ys)) ≡ false → (zs : List (List Range)) → sets_in ys ≡ zs →
    meet_of (xs ++ sets_in (collected ys)) ≡ meet_of (xs ++ sets_in ys)
same_meet xs ys h g no_none [] is = ap (λ z. meet_of (xs ++ z)) (sets-collected_none ys is ∙ sym is)
same_meet xs ys h g no_none (s ∷ ss) is = elim (mkset_cases (inter_of s ss)) [
  | inl empty ↦ absurd (false≢true (sym no_none ∙ ap (λ z. is_member none (meet_of z)) is ∙ empty_meet s ss empty))
  | inr some ↦
      ap (λ z. meet_of (xs ++ z)) (sets-collected_some ys s ss is some)
      ∙ meet_of-more xs s ss h (ap all_canonical (sym is) ∙ g)
      ∙ ap (λ z. meet_of (xs ++ z)) (sym is)
]

not_in_meet : (r : Regex) (ss : List (List Range)) → other r → is_member none (meet_of ss) ≡ false
    → is_member r (meet_of ss) ≡ false
unfolding meet_of
not_in_meet r [] o no_none = refl
not_in_meet r (s ∷ ss) o no_none = elim (mkset_cases (inter_of s ss)) [
  | inl empty ↦ absurd (false≢true (sym no_none ∙ empty_meet s ss empty))
  | inr some ↦ ap (λ x. regex_eq r x || false) some ∙ ap (λ b. b || false) (no_set_is_other r (inter_of s ss) o)
]

-- a member that is no set, and not every word, was there before
is_member-collected : (r : Regex) (rs : List Regex) → other r → is_member none (meet_of (sets_in rs)) ≡ false
    → is_member r (collected rs) ≡ is_member r rs
is_member-collected r rs o no_none =
    is_member-tested r rs
    ∙ ap₂ (λ x y. not x && (is_member r (meet_of (sets_in rs)) || (not y && is_member r rs))) o.1 o.0
    ∙ ap (λ b. b || is_member r rs) (not_in_meet r (sets_in rs) o no_none)

sets-both : (xs ys : List Regex) → sets_in (xs ++ ys) ≡ sets_in xs ++ sets_in ys
sets-both xs ys = flat_map-append ranges_of xs ys

normal_of : (zs : List Regex) → list_all good zs ≡ true → list_all is_normal zs ≡ true
normal_of zs k = list_all-from good is_normal zs good_is_normal k

-- where the one list has none, or sets that have nothing in common, so has the longer one
none_of_more : (xs ys : List Regex) → list_all good xs ≡ true → list_all good ys ≡ true
    → list_any is_none (meet_sets ys) ≡ true → list_any is_none (meet_sets (xs ++ ys)) ≡ true
none_of_more xs ys h g is =
    elim (or_cases (is_member none (meet_of (sets_in ys))) (is_member none ys) (sym (any-join ys) ∙ is)) [
      | inl empty ↦
          any-join (xs ++ ys)
          ∙ ap (λ b. b || is_member none (xs ++ ys))
          (ap (λ x. is_member none (meet_of x)) (sets-both xs ys)
          ∙ empty_of_more (sets_in xs) (sets_in ys) (sets_in-canonical xs (normal_of xs h))
          (sets_in-canonical ys (normal_of ys g)) empty)
      | inr here ↦
          any-join (xs ++ ys)
          ∙ ap (λ b. is_member none (meet_of (sets_in (xs ++ ys))) || b)
          (is_member-both none xs ys ∙ ap (λ b. is_member none xs || b) here ∙ or-true (is_member none xs))
          ∙ or-true (is_member none (meet_of (sets_in (xs ++ ys))))
    ]

intersection_step : (xs ys : List Regex) → list_all good xs ≡ true → list_all good ys ≡ true
    → finish (xs ++ conjuncts (finish ys)) ≡ finish (xs ++ ys)
intersection_step xs ys h g = step (list_any is_none (meet_sets ys)) refl
  where
    step : (b : Bool) → list_any is_none (meet_sets ys) ≡ b → finish (xs ++ conjuncts (finish ys)) ≡ finish (xs ++ ys)
    step true is =
        ap (λ x. finish (xs ++ conjuncts x)) (finish-none ys is)
        ∙ finish-none (xs ++ conjuncts none)
        (any-join (xs ++ conjuncts none)
        ∙ ap (λ b. is_member none (meet_of (sets_in (xs ++ conjuncts none))) || b)
        (is_member-both none xs (conjuncts none) ∙ ap (λ b. is_member none xs || b) none_itself
        ∙ or-true (is_member none xs))
        ∙ or-true (is_member none (meet_of (sets_in (xs ++ conjuncts none)))))
        ∙ sym (finish-none (xs ++ ys) (none_of_more xs ys h g is))
    step false is =
        let m = AreMembers-collected ys (normal_of ys g) (list_all-from good (λ r. not (is_and r)) ys good_is_flat g) is
        in
        let parts_false = or_parts (is_member none (meet_of (sets_in ys))) (is_member none ys) (sym (any-join ys) ∙ is)
        in
        ap (λ b. finish (xs ++ conjuncts (cond b none (and_of (collected ys))))) is
        ∙ finish-same (xs ++ conjuncts (and_of (collected ys))) (xs ++ ys)
        (ap meet_of (sets-both xs (conjuncts (and_of (collected ys)))
        ∙ ap (λ z. sets_in xs ++ z) (sets_again (collected ys) m))
        ∙ same_meet (sets_in xs) ys (sets_in-canonical xs (normal_of xs h)) (sets_in-canonical ys (normal_of ys g))
        parts_false.0 (sets_in ys) refl
        ∙ ap meet_of (sym (sets-both xs ys)))
        (λ r o.
        is_member-both r xs (conjuncts (and_of (collected ys)))
        ∙ ap (λ b. is_member r xs || b) (members_again (collected ys) r m o.1
        ∙ is_member-collected r ys o parts_false.0)
        ∙ sym (is_member-both r xs ys))

pub intersection_of_more : (a : Regex) (rs : List Regex) → is_normal a ≡ true → list_all is_normal rs ≡ true
    → mkand (a ∷ mkand rs ∷ []) ≡ mkand (a ∷ rs)
intersection_of_more a rs h g =
    mkand-finish (a ∷ mkand rs ∷ [])
    ∙ ap (λ xs. finish (conjuncts a ++ xs)) (append-nil (conjuncts (mkand rs)))
    ∙ ap (λ x. finish (conjuncts a ++ conjuncts x)) (mkand-finish rs)
    ∙ intersection_step (conjuncts a) (flat_map conjuncts rs) (good-conjuncts a h)
    (list_all-flat good is_normal conjuncts rs good-conjuncts g)
    ∙ sym (mkand-finish (a ∷ rs))
