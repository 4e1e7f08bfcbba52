-- Unions and intersections of members.
use Rattle.std.proofs.Common.{◌≡◌, ℕ, zero, suc, ◌<◌, ◌≤◌, Bool, true, false, not, ◌&&◌, ◌||◌, cond, if◌then◌else◌, nat_eq, List, [], ◌∷◌, ◌++◌, length, get_or, filter, inl, inr, refl, sym, ap, ap₂, ◌∙◌, arith}
use Rattle.std.specs.List.{list_any, list_all, flat_map, All}
use Rattle.std.proofs.Math.Bool.{and-true}
use Rattle.std.proofs.lemmas.Bool.{and_parts, false≢true, or_cases, or_left, or_right}
use Rattle.std.proofs.lemmas.List.Folds.{list_any-append}
use Rattle.std.proofs.lemmas.List.Elements.{All-filter}
use Rattle.sb_class.specs.Ranges.{Range, in_ranges, rises_from, IsCanonical}
use Rattle.sb_lang.specs.Regex.{Regex, none, eps, set, cat, alt, and, neg, star, rep, path, regexes}
use Rattle.sb_lang.specs.Order.{regex_eq}
use Rattle.sb_lang.specs.OrderLaws.{OrderTellsApart}
use Rattle.sb_lang.specs.SetLaws.{UnionHasBoth, UnionIsCanonical, IntersectionHasCommon, IntersectionIsCanonical}
use Rattle.sb_lang.specs.Constructors.{anything, mkset, mkalt, mkand, is_none, is_anything, alternatives, conjuncts, ranges_of, is_set, union_of, inter_of, join_sets, meet_of, meet_sets, alt_of, and_of, sorted}
use Rattle.sb_lang.specs.NormalForm.{is_normal}
use Rattle.sb_regex.specs.Numbered.{regex_at, regexes_at, Names, AllNumbers, AreDistinct, Extends}
use Rattle.sb_regex.specs.Steps.{without_sets, in_some, in_all, union_of_members, intersection_of_members}
use Rattle.sb_regex.proofs.CallerLemmas.{ats_kept, names_at, names_below, names_from, number_in}
use Rattle.sb_regex.proofs.Building.{normal_at}
use Rattle.sb_regex.proofs.Ordered.{tests_agree, regex_same, same_regex}
use Rattle.sb_lang.proofs.CallerLemmas.{all_canonical}

abbrev SameRanges : Type 0
SameRanges = (a b : List Range) → IsCanonical a → IsCanonical b → ((c : ℕ) → in_ranges a c ≡ in_ranges b c) → a ≡ b

pub ats_normal : (rs : List Regex) (is : List ℕ) → list_all is_normal rs ≡ true → AllNumbers rs is
    → list_all is_normal (regexes_at rs is) ≡ true
ats_normal rs [] n h = refl
ats_normal rs (i ∷ is) n h =
    ap₂ ◌&&◌ (normal_at rs i n (h 0 0 (omega arith))) (ats_normal rs is n (λ k d l. h (suc k) d (omega (arith, l))))

-- Sets as one.

sets_canonical : (rs : List Regex) → list_all is_normal rs ≡ true → all_canonical (flat_map ranges_of rs) ≡ true
unfolding ranges_of is_normal
sets_canonical [] n = refl
sets_canonical (set s ∷ rs) n = let p = and_parts _ _ n in ap₂ ◌&&◌ (and_parts _ _ p.0).0 (sets_canonical rs p.1)
sets_canonical (none ∷ rs) n = sets_canonical rs n
sets_canonical (eps ∷ rs) n = sets_canonical rs n
sets_canonical (cat a b ∷ rs) n = sets_canonical rs (and_parts _ _ n).1
sets_canonical (alt ps ∷ rs) n = sets_canonical rs (and_parts _ _ n).1
sets_canonical (and ps ∷ rs) n = sets_canonical rs (and_parts _ _ n).1
sets_canonical (neg a ∷ rs) n = sets_canonical rs (and_parts _ _ n).1
sets_canonical (star a ∷ rs) n = sets_canonical rs (and_parts _ _ n).1
sets_canonical (rep a m k ∷ rs) n = sets_canonical rs (and_parts _ _ n).1
sets_canonical (path a b ∷ rs) n = sets_canonical rs (and_parts _ _ n).1

union_in : UnionHasBoth → (ss : List (List Range)) (c : ℕ) → in_ranges (union_of ss) c ≡ in_some ss c
unfolding union_of in_ranges
union_in law [] c = refl
union_in law (s ∷ ss) c = law s (union_of ss) c ∙ ap (λ b. in_ranges s c || b) (union_in law ss c)

union_canonical : UnionIsCanonical → (ss : List (List Range)) → all_canonical ss ≡ true → IsCanonical (union_of ss)
unfolding union_of rises_from
union_canonical law [] h = refl
union_canonical law (s ∷ ss) h = let p = and_parts _ _ h in law s (union_of ss) p.0 (union_canonical law ss p.1)

inter_in : IntersectionHasCommon → (s : List Range) (ss : List (List Range)) (c : ℕ)
    → in_ranges (inter_of s ss) c ≡ in_all (s ∷ ss) c
unfolding inter_of
inter_in law s [] c = sym (and-true (in_ranges s c))
inter_in law s (t ∷ ss) c = law s (inter_of t ss) c ∙ ap (λ b. in_ranges s c && b) (inter_in law t ss c)

inter_canonical : IntersectionIsCanonical → (s : List Range) (ss : List (List Range)) → all_canonical (s ∷ ss) ≡ true
    → IsCanonical (inter_of s ss)
unfolding inter_of
inter_canonical law s [] h = (and_parts _ _ h).0
inter_canonical law s (t ∷ ss) h = let p = and_parts _ _ h in law s (inter_of t ss) p.0 (inter_canonical law t ss p.1)

pub join_value : UnionHasBoth → UnionIsCanonical → SameRanges
    → (old new : List Regex) (ms start first all : List ℕ) (id : ℕ) (class : List Range) → list_all is_normal old ≡ true
    → AllNumbers old ms → Extends old new → IsCanonical class
    → ((c : ℕ) → in_ranges class c ≡ in_some (flat_map ranges_of (regexes_at old ms)) c) → Names new id (mkset class)
    → start ≡ [] → first ≡ start ++ id ∷ []
    → regexes_at new all ≡ regexes_at new first ++ without_sets (regexes_at new ms)
    → regexes_at new all ≡ join_sets (regexes_at old ms)
unfolding join_sets
join_value has canonical same old new ms start first all id class normal known ext good members named empty pushed made
    =
    let sets = flat_map ranges_of (regexes_at old ms) in
    let is : class ≡ union_of sets =
    same class (union_of sets) good
    (union_canonical canonical sets (sets_canonical (regexes_at old ms) (ats_normal old ms normal known)))
    (λ c. members c ∙ sym (union_in has sets c)) in
    let alone : first ≡ id ∷ [] = pushed ∙ ap (λ xs. xs ++ id ∷ []) empty in
    made
    ∙ ap₂ (λ xs ys. xs ++ without_sets ys) (ap (regexes_at new) alone) (ats_kept old new ms ext known)
    ∙ ap (λ r. r ∷ without_sets (regexes_at old ms)) (names_at new id (mkset class) named ∙ ap mkset is)

pub first_numbers : (new : List Regex) (start first : List ℕ) (id : ℕ) (r : Regex) → Names new id r → start ≡ []
    → first ≡ start ++ id ∷ [] → AllNumbers new first
first_numbers new start first id r named empty pushed =
    let alone : first ≡ id ∷ [] = pushed ∙ ap (λ xs. xs ++ id ∷ []) empty in
    rw alone (only id (names_below new id r named))
  where
    only : (i : ℕ) → i < length new → All (λ i. i < length new) (i ∷ [])
    only i l zero d h = l
    only i l (suc k) d h = absurd (omega arith)

pub meet_none : (sets : List (List Range)) → sets ≡ [] → [] ≡ meet_of sets
unfolding meet_of
meet_none sets e = ap (λ s. meet_of s) (sym e)

meet_one : (class s : List Range) (ss : List (List Range)) → class ≡ inter_of s ss → mkset class ∷ [] ≡ meet_of (s ∷ ss)
unfolding meet_of
meet_one class s ss e = ap (λ x. mkset x ∷ []) e

pub meet_value : IntersectionHasCommon → IntersectionIsCanonical → SameRanges
    → (old new : List Regex) (ms all : List ℕ) (id : ℕ) (class : List Range) → list_all is_normal old ≡ true
    → AllNumbers old ms → IsCanonical class → (sets : List (List Range)) → sets ≡ flat_map ranges_of (regexes_at old ms)
    → 0 < length sets → ((c : ℕ) → in_ranges class c ≡ in_all sets c) → Names new id (mkset class) → all ≡ id ∷ []
    → regexes_at new all ≡ meet_of (flat_map ranges_of (regexes_at old ms))
meet_value common canonical same old new ms all id class normal known good sets from some members named alone =
    ap (regexes_at new) alone
    ∙ ap (λ r. r ∷ []) (names_at new id (mkset class) named)
    ∙ step sets (ap all_canonical from ∙ sets_canonical (regexes_at old ms) (ats_normal old ms normal known)) some
    members
    ∙ ap (λ s. meet_of s) from
  where
    step : (sets : List (List Range)) → all_canonical sets ≡ true → 0 < length sets
        → ((c : ℕ) → in_ranges class c ≡ in_all sets c) → mkset class ∷ [] ≡ meet_of sets
    step [] ok some members = absurd (omega arith)
    step (s ∷ ss) ok some members =
        meet_one class s ss
        (same class (inter_of s ss) good (inter_canonical canonical s ss ok)
        (λ c. members c ∙ sym (inter_in common s ss c)))

-- Members that are another's number.

any_number : OrderTellsApart → (rs : List Regex) → AreDistinct rs → (id : ℕ) (r : Regex) → Names rs id r → (ms : List ℕ)
    → AllNumbers rs ms → list_any (λ y. nat_eq y id) ms ≡ list_any (λ x. regex_eq x r) (regexes_at rs ms)
any_number tells rs distinct id r named [] h = refl
any_number tells rs distinct id r named (m ∷ ms) h =
    ap₂ ◌||◌
    (tests_agree tells rs distinct m id (h 0 0 (omega arith)) (names_below rs id r named)
    ∙ ap (λ x. regex_eq (regex_at rs m) x) (names_at rs id r named))
    (any_number tells rs distinct id r named ms (λ k d l. h (suc k) d (omega (arith, l))))

other_numbers : OrderTellsApart → (rs : List Regex) → AreDistinct rs → (id : ℕ) (r : Regex) → Names rs id r
    → (ms : List ℕ) → AllNumbers rs ms
    → regexes_at rs (filter (λ y. not (nat_eq y id)) ms) ≡ filter (λ x. not (regex_eq x r)) (regexes_at rs ms)
other_numbers tells rs distinct id r named [] h = refl
other_numbers tells rs distinct id r named (m ∷ ms) h =
    step (nat_eq m id) (other_numbers tells rs distinct id r named ms (λ k d l. h (suc k) d (omega (arith, l))))
    ∙ ap (λ b. cond (not b) (regex_at rs m ∷ filter (λ x. not (regex_eq x r)) (regexes_at rs ms))
    (filter (λ x. not (regex_eq x r)) (regexes_at rs ms)))
    (tests_agree tells rs distinct m id (h 0 0 (omega arith)) (names_below rs id r named)
    ∙ ap (λ x. regex_eq (regex_at rs m) x) (names_at rs id r named))
  where
    step : (b : Bool) → regexes_at rs (filter (λ y. not (nat_eq y id)) ms)
        ≡ filter (λ x. not (regex_eq x r)) (regexes_at rs ms) →
        regexes_at rs (cond (not b) (m ∷ filter (λ y. not (nat_eq y id)) ms) (filter (λ y. not (nat_eq y id)) ms))
        ≡ cond (not b) (regex_at rs m ∷ filter (λ x. not (regex_eq x r)) (regexes_at rs ms))
        (filter (λ x. not (regex_eq x r)) (regexes_at rs ms))
    step true e = e
    step false e = ap (λ xs. regex_at rs m ∷ xs) e

pub kept_numbers : (rs : List Regex) (ms ks : List ℕ) (id : ℕ) → AllNumbers rs ms
    → ks ≡ filter (λ y. not (nat_eq y id)) ms → AllNumbers rs ks
kept_numbers rs ms ks id h e = rw e (All-filter (λ y. not (nat_eq y id)) (λ i. i < length rs) ms h)

-- the member that decides is there, in the list that was there before the number was made
pub decider_found : OrderTellsApart → (old new : List Regex) → AreDistinct new → Extends old new → (id : ℕ) (r : Regex)
    → Names new id r → (ms held : List ℕ) → held ≡ ms → AllNumbers old ms → AllNumbers new ms → (b : Bool)
    → b ≡ list_any (λ y. nat_eq y id) held → list_any (λ x. regex_eq x r) (regexes_at old ms) ≡ b
decider_found tells old new distinct ext id r named ms held same known there b is =
    ap (λ xs. list_any (λ x. regex_eq x r) xs) (sym (ats_kept old new ms ext known))
    ∙ sym (any_number tells new distinct id r named ms there)
    ∙ ap (λ xs. list_any (λ y. nat_eq y id) xs) (sym same)
    ∙ sym is

pub rest_sorted : OrderTellsApart → (old new : List Regex) → AreDistinct new → Extends old new → (id : ℕ) (r : Regex)
    → Names new id r → (ms ks rising held : List ℕ) → AllNumbers old ms → AllNumbers new ms
    → ks ≡ filter (λ y. not (nat_eq y id)) ms → regexes_at new rising ≡ sorted (regexes_at new ks) → held ≡ rising
    → regexes_at new held ≡ sorted (filter (λ x. not (regex_eq x r)) (regexes_at old ms))
rest_sorted tells old new distinct ext id r named ms ks rising held known there kept order same =
    ap (regexes_at new) same ∙ order
    ∙ ap (λ xs. sorted (regexes_at new xs)) kept
    ∙ ap sorted (other_numbers tells new distinct id r named ms there)
    ∙ ap (λ xs. sorted (filter (λ x. not (regex_eq x r)) xs)) (ats_kept old new ms ext known)

pub union_is_anything : (rs : List Regex) → list_any is_anything rs ≡ true → anything ≡ union_of_members rs
union_is_anything rs h = ap (λ b. if b then anything else alt_of (sorted (filter (λ r. not (is_none r)) rs))) (sym h)

pub union_is_rest : (rs : List Regex) (xs : List Regex) → list_any is_anything rs ≡ false
    → xs ≡ sorted (filter (λ r. not (is_none r)) rs) → alt_of xs ≡ union_of_members rs
union_is_rest rs xs h e =
    ap alt_of e ∙ ap (λ b. if b then anything else alt_of (sorted (filter (λ r. not (is_none r)) rs))) (sym h)

pub intersection_is_none : (rs : List Regex) → list_any is_none rs ≡ true → none ≡ intersection_of_members rs
intersection_is_none rs h = ap (λ b. if b then none else and_of (sorted (filter (λ r. not (is_anything r)) rs))) (sym h)

pub intersection_is_rest : (rs : List Regex) (xs : List Regex) → list_any is_none rs ≡ false
    → xs ≡ sorted (filter (λ r. not (is_anything r)) rs) → and_of xs ≡ intersection_of_members rs
intersection_is_rest rs xs h e =
    ap and_of e ∙ ap (λ b. if b then none else and_of (sorted (filter (λ r. not (is_anything r)) rs))) (sym h)

-- The node of the members.

pub alt_of_none : (rs : List Regex) (ids : List ℕ) → length ids < 1 → none ≡ alt_of (regexes_at rs ids)
unfolding alt_of
alt_of_none rs [] l = refl
alt_of_none rs (i ∷ is) l = absurd (omega arith)

pub and_of_none : (rs : List Regex) (ids : List ℕ) → length ids < 1 → anything ≡ and_of (regexes_at rs ids)
unfolding and_of
and_of_none rs [] l = refl
and_of_none rs (i ∷ is) l = absurd (omega arith)

one_of : (f : List Regex → Regex) → ((r : Regex) → f (r ∷ []) ≡ r) → (rs : List Regex) (ids : List ℕ) (x : ℕ)
    → AllNumbers rs ids → 1 ≤ length ids → length ids < 2 → x ≡ get_or ids 0 x → Names rs x (f (regexes_at rs ids))
one_of f one rs [] x h l m e = absurd (omega arith)
one_of f one rs (i ∷ []) x h l m e =
    names_from rs x (f (regex_at rs i ∷ [])) (number_in rs (i ∷ []) 0 x h (omega arith) e)
    (ap (regex_at rs) e ∙ sym (one (regex_at rs i)))
one_of f one rs (i ∷ j ∷ is) x h l m e = absurd (omega arith)

pub alt_of_one : (rs : List Regex) (ids : List ℕ) (x : ℕ) → AllNumbers rs ids → 1 ≤ length ids → length ids < 2
    → x ≡ get_or ids 0 x → Names rs x (alt_of (regexes_at rs ids))
unfolding alt_of
alt_of_one = one_of alt_of (λ r. refl)

pub and_of_one : (rs : List Regex) (ids : List ℕ) (x : ℕ) → AllNumbers rs ids → 1 ≤ length ids → length ids < 2
    → x ≡ get_or ids 0 x → Names rs x (and_of (regexes_at rs ids))
unfolding and_of
and_of_one = one_of and_of (λ r. refl)

pub alt_of_many : (rs : List Regex) (ids ps : List ℕ) → 2 ≤ length ids → ps ≡ ids
    → alt (regexes (regexes_at rs ps)) ≡ alt_of (regexes_at rs ids)
unfolding alt_of
alt_of_many rs ids ps l e = ap (λ xs. alt (regexes (regexes_at rs xs))) e ∙ many ids l
  where
    many : (ids : List ℕ) → 2 ≤ length ids → alt (regexes (regexes_at rs ids)) ≡ alt_of (regexes_at rs ids)
    many [] l = absurd (omega arith)
    many (i ∷ []) l = absurd (omega arith)
    many (i ∷ j ∷ is) l = refl

pub and_of_many : (rs : List Regex) (ids ps : List ℕ) → 2 ≤ length ids → ps ≡ ids
    → and (regexes (regexes_at rs ps)) ≡ and_of (regexes_at rs ids)
unfolding and_of
and_of_many rs ids ps l e = ap (λ xs. and (regexes (regexes_at rs xs))) e ∙ many ids l
  where
    many : (ids : List ℕ) → 2 ≤ length ids → and (regexes (regexes_at rs ids)) ≡ and_of (regexes_at rs ids)
    many [] l = absurd (omega arith)
    many (i ∷ []) l = absurd (omega arith)
    many (i ∷ j ∷ is) l = refl

pub mkalt_is : (rs ms js : List Regex) → ms ≡ flat_map alternatives rs → js ≡ join_sets ms
    → union_of_members js ≡ mkalt rs
unfolding mkalt
mkalt_is rs ms js e f = ap (λ xs. union_of_members xs) (f ∙ ap join_sets e)

pub mkand_is : (rs ms js : List Regex) → ms ≡ flat_map conjuncts rs → js ≡ meet_sets ms
    → intersection_of_members js ≡ mkand rs
unfolding mkand
mkand_is rs ms js e f = ap (λ xs. intersection_of_members xs) (f ∙ ap meet_sets e)

pub alone_number : (rs : List Regex) (all : List ℕ) (id : ℕ) (r : Regex) → Names rs id r → all ≡ id ∷ []
    → AllNumbers rs all
alone_number rs all id r named alone = first_numbers rs [] all id r named refl alone

pub meet_all : (old new : List Regex) (ms first all : List ℕ) → AllNumbers old ms → Extends old new
    → regexes_at new first ≡ meet_of (flat_map ranges_of (regexes_at old ms))
    → regexes_at new all ≡ regexes_at new first ++ without_sets (regexes_at new ms)
    → regexes_at new all ≡ meet_sets (regexes_at old ms)
unfolding meet_sets
meet_all old new ms first all known ext one made =
    made ∙ ap₂ (λ xs ys. xs ++ without_sets ys) one (ats_kept old new ms ext known)

-- None among the members of an intersection decides it.

none_in_flat : OrderTellsApart → (rs : List Regex) → list_any is_none rs ≡ true
    → list_any is_none (flat_map conjuncts rs) ≡ true
unfolding conjuncts
none_in_flat tells [] h = absurd (false≢true h)
none_in_flat tells (r ∷ rs) h = elim (or_cases (is_none r) (list_any is_none rs) h) [
  | inl here ↦
      rw (regex_same tells r none here)
      (or_left (is_none none) (list_any is_none (flat_map conjuncts rs)) (same_regex tells none none refl))
  | inr later ↦
      list_any-append is_none (conjuncts r) (flat_map conjuncts rs)
      ∙ or_right (list_any is_none (conjuncts r)) (list_any is_none (flat_map conjuncts rs))
      (none_in_flat tells rs later)
]

none_in_others : OrderTellsApart → (rs : List Regex) → list_any is_none rs ≡ true
    → list_any is_none (without_sets rs) ≡ true
unfolding is_set
none_in_others tells [] h = absurd (false≢true h)
none_in_others tells (r ∷ rs) h = elim (or_cases (is_none r) (list_any is_none rs) h) [
  | inl here ↦
      rw (regex_same tells r none here)
      (or_left (is_none none) (list_any is_none (without_sets rs)) (same_regex tells none none refl))
  | inr later ↦ step (not (is_set r)) (none_in_others tells rs later)
]
  where
    step : (b : Bool) → list_any is_none (without_sets rs) ≡ true
        → list_any is_none (cond b (r ∷ without_sets rs) (without_sets rs)) ≡ true
    step true e = or_right (is_none r) (list_any is_none (without_sets rs)) e
    step false e = e

pub none_decides : OrderTellsApart → (rs : List Regex) → list_any is_none rs ≡ true → none ≡ mkand rs
unfolding meet_sets
none_decides tells rs h =
    let members = flat_map conjuncts rs in
    intersection_is_none (meet_sets members)
    (list_any-append is_none (meet_of (flat_map ranges_of members)) (without_sets members)
    ∙ or_right (list_any is_none (meet_of (flat_map ranges_of members))) (list_any is_none (without_sets members))
    (none_in_others tells members (none_in_flat tells rs h)))
    ∙ mkand_is rs members (meet_sets members) refl refl
