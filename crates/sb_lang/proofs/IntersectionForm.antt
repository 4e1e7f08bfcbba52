-- `mkand` of normal members is normal.
use Rattle.std.proofs.Common.{◌≡◌, ℕ, zero, suc, ◌≤◌, Bool, true, false, not, ◌&&◌, ◌||◌, cond, ◌⊎◌, nat_lt, List, [], ◌∷◌, ◌++◌, length, refl, sym, ap, ap₂, ◌∙◌, arith, inl, inr, subst, length-append}
use Rattle.std.specs.List.{list_any, list_all, filter, flat_map}
use Rattle.std.proofs.lemmas.Bool.{and_parts, or_cases, false≢true, ltb-true, lt-ltb}
use Rattle.std.proofs.lemmas.Grind.{flat_map-append}
use Rattle.std.proofs.lemmas.List.Folds.{list_all-append}
use Rattle.sb_class.specs.Ranges.{Range, rises_from}
use Rattle.sb_lang.specs.Regex.{Regex, Regexes, none, set, and, neg, regexes, parts}
use Rattle.sb_lang.specs.Order.{code, codes, regex_eq}
use Rattle.sb_lang.specs.Constructors.{anything, is_anything, is_none, mkset, conjuncts, ranges_of, is_set, inter_of, meet_of, meet_sets, sorted, and_of, mkand, mknot}
use Rattle.sb_lang.specs.NormalForm.{is_normal, all_normal}
use Rattle.sb_lang.proofs.OrderFacts.{same_regex, regex_eq-itself, regex_eq-from}
use Rattle.sb_lang.proofs.MemberFacts.{parts-regexes}
use Rattle.sb_lang.proofs.SortedFacts.{sets_in, without_sets, list_all-filter, filter-passes, list_all-from, list_all-both, list_all-flat, list_all-none, list_any-none, list_all-sorted, ascending-sorted, without_sets-whole, sets_in-without, has_set, sets_in-one, sets_in-sorted, sets_in-filter, one_set_in, sorted_again, sorted_whole}
use Rattle.sb_lang.proofs.MemberLists.{AreMembers, all_normal-parts, size, parts-small, is_normal-mkset, sets_in-canonical, all_canonical, IsCanonical-inter_of, mkset-normal, few_in_mkset}

unfoldable pub is_and : Regex → Bool
is_and (and ps) = true
is_and r = false

-- the members as they come to stand
abbrev pub collected : List Regex → List Regex
collected rs = sorted (filter (λ r. not (is_anything r)) (meet_sets rs))

list_all-collected : (p : Regex → Bool) (rs : List Regex) → list_all p (meet_of (sets_in rs)) ≡ true
    → list_all p rs ≡ true → list_all p (collected rs) ≡ true
unfolding meet_sets
list_all-collected p rs one all =
    list_all-sorted p (filter (λ r. not (is_anything r)) (meet_sets rs))
    ∙ list_all-filter p (λ r. not (is_anything r)) (meet_sets rs)
    (list_all-append p (meet_of (sets_in rs)) (without_sets rs)
    ∙ ap₂ ◌&&◌ one (list_all-filter p (λ r. not (is_set r)) rs all))

list_all-meet_of : (p : Regex → Bool) (ss : List (List Range)) → ((s : List Range) → p (mkset s) ≡ true)
    → list_all p (meet_of ss) ≡ true
unfolding meet_of
list_all-meet_of p [] each = refl
list_all-meet_of p (s ∷ ss) each = ap (λ b. b && true) (each (inter_of s ss))

normal_meet : (ss : List (List Range)) → all_canonical ss ≡ true → list_all is_normal (meet_of ss) ≡ true
unfolding meet_of
normal_meet [] h = refl
normal_meet (s ∷ ss) h =
    let p = and_parts (rises_from 0 s) _ h in
    ap (λ b. b && true) (is_normal-mkset (inter_of s ss) (IsCanonical-inter_of s ss p.0 p.1))

-- An intersection that is normal has no intersections among its members, since a member's code is shorter.

small : ℕ → Regex → Bool
small k r = not (is_and r) || nat_lt (size r) k

small-mkset : (k : ℕ) (s : List Range) → small k (mkset s) ≡ true
unfolding small is_and mkset
small-mkset k [] = refl
small-mkset k (r ∷ rs) = refl

small-conjuncts : (k : ℕ) (r : Regex) → small (suc k) r ≡ true → list_all (small k) (conjuncts r) ≡ true
unfolding small is_and conjuncts code codes
small-conjuncts k (and ps) h =
    let lt = ltb-true (size (and ps)) (suc k) h in
    list_all-from (λ r. nat_lt (size r) k) (small k) (parts ps) (λ r g. or_right (not (is_and r)) _ g)
    (parts-small ps k (omega (arith, lt)))
  where
    or_right : (x y : Bool) → y ≡ true → (x || y) ≡ true
    or_right true y g = refl
    or_right false y g = g
small-conjuncts k r h = refl

small-collected : (k : ℕ) (rs : List Regex) → list_all (small (suc k)) rs ≡ true
    → list_all (small k) (collected (flat_map conjuncts rs)) ≡ true
small-collected k rs h =
    list_all-collected (small k) (flat_map conjuncts rs)
    (list_all-meet_of (small k) (sets_in (flat_map conjuncts rs)) (small-mkset k))
    (list_all-flat (small k) (small (suc k)) conjuncts rs (small-conjuncts k) h)

small-zero : (r : Regex) → small 0 r ≡ true → not (is_and r) ≡ true
unfolding small
small-zero r h = elim (or_cases (not (is_and r)) (nat_lt (size r) 0) h)
    [ inl e ↦ e | inr lt ↦ absurd (omega (arith, ltb-true (size r) 0 lt)) ]

none_left : (k : ℕ) (rs : List Regex) → rs ≡ collected (flat_map conjuncts rs) → list_all (small k) rs ≡ true
    → list_all (λ r. not (is_and r)) rs ≡ true
none_left zero rs same h = list_all-from (small 0) (λ r. not (is_and r)) rs small-zero h
none_left (suc k) rs same h = none_left k rs same (ap (list_all (small k)) same ∙ small-collected k rs h)

small_parts : (ps : Regexes) → list_all (small (size (and ps))) (parts ps) ≡ true
unfolding small code codes
small_parts ps =
    list_all-from (λ r. nat_lt (size r) (length (codes ps))) (small (suc (length (codes ps)))) (parts ps)
    (λ r g. wider (not (is_and r)) (size r) (length (codes ps)) g) (parts-small ps (length (codes ps)) (omega arith))
  where
    wider : (x : Bool) (n k : ℕ) → nat_lt n k ≡ true → (x || nat_lt n (suc k)) ≡ true
    wider true n k g = refl
    wider false n k g = lt-ltb n (suc k) (omega (arith, ltb-true n k g))

-- Members of a list that is collected.

no_and_in : (s : List Range) → not (is_and (mkset s)) ≡ true
unfolding is_and mkset
no_and_in [] = refl
no_and_in (r ∷ rs) = refl

few_in_meet : (ss : List (List Range)) → length (sets_in (meet_of ss)) ≤ 1
unfolding meet_of
few_in_meet [] = omega arith
few_in_meet (s ∷ ss) = omega (arith, sets_in-one (mkset (inter_of s ss)) [], few_in_mkset (inter_of s ss))

few_joined : (rs : List Regex) → length (sets_in (meet_sets rs)) ≤ 1
unfolding meet_sets
few_joined rs =
    omega (
      arith,
      ap length (flat_map-append ranges_of (meet_of (sets_in rs)) (without_sets rs)),
      length-append (sets_in (meet_of (sets_in rs))) (sets_in (without_sets rs)),
      few_in_meet (sets_in rs),
      ap length (sets_in-without rs),
    )

pub AreMembers-collected : (rs : List Regex) → list_all is_normal rs ≡ true → list_all (λ r. not (is_and r)) rs ≡ true
    → list_any is_none (meet_sets rs) ≡ false → AreMembers is_and (collected rs)
AreMembers-collected rs normal flat plain = record {
  normal = list_all-collected is_normal rs (normal_meet (sets_in rs) (sets_in-canonical rs normal)) normal;
  flat = list_all-collected (λ r. not (is_and r)) rs (list_all-meet_of (λ r. not (is_and r)) (sets_in rs) no_and_in)
      flat;
  no_anything = list_all-sorted (λ r. not (is_anything r)) (filter (λ r. not (is_anything r)) (meet_sets rs))
      ∙ filter-passes (λ r. not (is_anything r)) (meet_sets rs);
  no_none =
      list_all-sorted (λ r. not (is_none r)) (filter (λ r. not (is_anything r)) (meet_sets rs))
      ∙ list_all-filter (λ r. not (is_none r)) (λ r. not (is_anything r)) (meet_sets rs)
      (list_all-none is_none (meet_sets rs) plain);
  few = few_sets;
  rising = ascending-sorted (filter (λ r. not (is_anything r)) (meet_sets rs));
}
  where
    few_sets : length (sets_in (collected rs)) ≤ 1
    few_sets = omega (
      arith,
      sets_in-sorted (filter (λ r. not (is_anything r)) (meet_sets rs)),
      sets_in-filter (λ r. not (is_anything r)) (meet_sets rs),
      few_joined rs,
    )

mkand-is : (rs : List Regex) → list_any is_none (meet_sets (flat_map conjuncts rs)) ≡ false
    → mkand rs ≡ and_of (collected (flat_map conjuncts rs))
unfolding mkand
mkand-is rs plain = ap (λ b. cond b none (and_of (collected (flat_map conjuncts rs)))) plain

pub flat_map-conjuncts : (rs : List Regex) → list_all (λ r. not (is_and r)) rs ≡ true → flat_map conjuncts rs ≡ rs
unfolding is_and conjuncts
flat_map-conjuncts [] h = refl
flat_map-conjuncts (and ps ∷ rs) h = absurd (false≢true h)
flat_map-conjuncts (r ∷ rs) h = ap (λ xs. r ∷ xs) (flat_map-conjuncts rs h)

-- collecting such members changes nothing

collected-plain : (rs : List Regex) → AreMembers is_and rs → sets_in rs ≡ [] → (list_any is_none (meet_sets rs) ≡ false)
    × (collected rs ≡ rs)
unfolding meet_sets meet_of
collected-plain rs m no_set =
    let is : meet_sets rs ≡ rs = ap₂ (λ ss xs. meet_of ss ++ xs) no_set (without_sets-whole rs no_set) in (
      ap (list_any is_none) is ∙ list_any-none is_none rs m.no_none,
      ap (λ xs. sorted (filter (λ r. not (is_anything r)) xs)) is
          ∙ sorted_whole (λ r. not (is_anything r)) rs m.no_anything m.rising,
    )

collected-one : (rs : List Regex) (s : List Range) → AreMembers is_and rs → sets_in rs ≡ s ∷ []
    → (list_any is_none (meet_sets rs) ≡ false) × (collected rs ≡ rs)
unfolding meet_sets meet_of inter_of code codes
collected-one rs s m one =
    let normal_set : is_normal (set s) ≡ true = has_set s rs is_normal m.normal one in
    let is : meet_sets rs ≡ set s ∷ without_sets rs =
    ap (λ ss. meet_of ss ++ without_sets rs) one ∙ ap (λ x. x ∷ without_sets rs) (mkset-normal s normal_set) in (
      ap (list_any is_none) is
          ∙ list_any-none is_none (without_sets rs)
          (list_all-filter (λ r. not (is_none r)) (λ r. not (is_set r)) rs m.no_none),
      ap (λ xs. sorted (filter (λ r. not (is_anything r)) xs)) is
          ∙ sorted_again (λ r. not (is_anything r)) s rs m.no_anything m.rising one,
    )

pub mkand-members : (rs : List Regex) → AreMembers is_and rs → mkand rs ≡ and_of rs
mkand-members rs m =
    let flat = flat_map-conjuncts rs m.flat in
    let same : (list_any is_none (meet_sets rs) ≡ false) × (collected rs ≡ rs) =
    elim (one_set_in rs m.few) [ inl no_set ↦ collected-plain rs m no_set | inr one ↦ collected-one rs one.0 m one.1 ]
    in
    mkand-is rs (ap (λ xs. list_any is_none (meet_sets xs)) flat ∙ same.0)
    ∙ ap (λ xs. and_of (collected xs)) flat ∙ ap and_of same.1

-- A normal intersection's members are such.

none_is_no_and : (ps : Regexes) → none ≡ and ps → ⊥
none_is_no_and ps e = cc

anything_is_no_and : (ps : Regexes) → anything ≡ and ps → ⊥
anything_is_no_and ps e = cc

pub and_parts_of : (ps qs : Regexes) → and ps ≡ and qs → ps ≡ qs
and_parts_of ps qs e = cc

and_of-is_and : (rs : List Regex) (ps : Regexes) → and_of rs ≡ and ps → (parts ps ≡ rs) ⊎ (rs ≡ and ps ∷ [])
unfolding and_of
and_of-is_and [] ps e = absurd (anything_is_no_and ps e)
and_of-is_and (r ∷ []) ps e = inr (ap (λ x. x ∷ []) e)
and_of-is_and (r ∷ s ∷ rs) ps e =
    inl (sym (ap parts (and_parts_of (regexes (r ∷ s ∷ rs)) ps e)) ∙ parts-regexes (r ∷ s ∷ rs))

mkand-is_and : (rs : List Regex) (ps : Regexes) → mkand rs ≡ and ps
    → (list_any is_none (meet_sets (flat_map conjuncts rs)) ≡ false)
    × (and_of (collected (flat_map conjuncts rs)) ≡ and ps)
unfolding mkand
mkand-is_and rs ps e = step (list_any is_none (meet_sets (flat_map conjuncts rs))) refl e
  where
    step : (b : Bool) → list_any is_none (meet_sets (flat_map conjuncts rs)) ≡ b
        → cond b none (and_of (collected (flat_map conjuncts rs))) ≡ and ps →
        (list_any is_none (meet_sets (flat_map conjuncts rs)) ≡ false)
        × (and_of (collected (flat_map conjuncts rs)) ≡ and ps)
    step true is e' = absurd (none_is_no_and ps e')
    step false is e' = (is, e')

not_small : (ps : Regexes) → small (size (and ps)) (and ps) ≡ true → ⊥
unfolding small is_and
not_small ps h = omega (arith, ltb-true (size (and ps)) (size (and ps)) h)

wider_small : (k : ℕ) (r : Regex) → small k r ≡ true → small (suc k) r ≡ true
unfolding small
wider_small k r h = wider (not (is_and r)) (size r) k h
  where
    wider : (x : Bool) (n k : ℕ) → (x || nat_lt n k) ≡ true → (x || nat_lt n (suc k)) ≡ true
    wider true n k g = refl
    wider false n k g = lt-ltb n (suc k) (omega (arith, ltb-true n k g))

from_collected : (rs : List Regex) → rs ≡ collected rs → AreMembers is_and (collected rs) → AreMembers is_and rs
from_collected rs same m = subst (AreMembers is_and) (sym same) m

pub AreMembers-parts : (ps : Regexes) → is_normal (and ps) ≡ true → AreMembers is_and (parts ps)
unfolding is_normal all_normal
AreMembers-parts ps h =
    let both = and_parts (all_normal ps) (regex_eq (mkand (parts ps)) (and ps)) h in
    let normal = sym (all_normal-parts ps) ∙ both.0 in
    let is = mkand-is_and (parts ps) ps (same_regex (mkand (parts ps)) (and ps) both.1) in
    elim (and_of-is_and (collected (flat_map conjuncts (parts ps))) ps is.1) [
      | inl same ↦
          let flat = none_left (size (and ps)) (parts ps) same (small_parts ps) in
          let whole = flat_map-conjuncts (parts ps) flat in
          let plain = ap (λ xs. list_any is_none (meet_sets xs)) (sym whole) ∙ is.0 in
          let again : parts ps ≡ collected (parts ps) = same ∙ ap collected whole in
          from_collected (parts ps) again (AreMembers-collected (parts ps) normal flat plain)
      | inr alone ↦
          let small_all = small-collected (size (and ps)) (parts ps)
          (list_all-from (small (size (and ps))) (small (suc (size (and ps)))) (parts ps)
          (wider_small (size (and ps))) (small_parts ps)) in
          absurd (not_small ps ((and_parts (small (size (and ps)) (and ps)) true
          (ap (list_all (small (size (and ps)))) (sym alone) ∙ small_all)).0))
    ]

-- The law.

whole : (rs : List Regex) → AreMembers is_and rs → mkand rs ≡ and (regexes rs)
    → (all_normal (regexes rs) && regex_eq (mkand (parts (regexes rs))) (and (regexes rs))) ≡ true
whole rs m is =
    ap₂ ◌&&◌ (all_normal-parts (regexes rs) ∙ ap (list_all is_normal) (parts-regexes rs) ∙ m.normal)
    (regex_eq-from (mkand (parts (regexes rs))) (and (regexes rs)) (ap mkand (parts-regexes rs) ∙ is))

is_normal-none : is_normal none ≡ true
unfolding is_normal all_normal
is_normal-none = refl

is_normal-and_of : (rs : List Regex) → AreMembers is_and rs → is_normal (and_of rs) ≡ true
unfolding and_of is_normal all_normal mknot
is_normal-and_of [] m = regex_eq-itself (neg none)
is_normal-and_of (r ∷ []) m = (and_parts (is_normal r) true m.normal).0
is_normal-and_of (r ∷ s ∷ rs) m = whole (r ∷ s ∷ rs) m (mkand-members (r ∷ s ∷ rs) m)

unfoldable pub good : Regex → Bool
good r = is_normal r && not (is_and r)

pub good-conjuncts : (r : Regex) → is_normal r ≡ true → list_all good (conjuncts r) ≡ true
unfolding conjuncts good is_and
good-conjuncts (and ps) h =
    let m = AreMembers-parts ps h in
    list_all-both is_normal (λ r. not (is_and r)) good (parts ps) (λ r a b. ap₂ ◌&&◌ a b) m.normal m.flat
good-conjuncts r h = ap (λ b. (b && true) && true) h

pub is_normal-mkand : (rs : List Regex) → list_all is_normal rs ≡ true → is_normal (mkand rs) ≡ true
unfolding mkand good
is_normal-mkand rs h =
    let all_good = list_all-flat good is_normal conjuncts rs good-conjuncts h in
    let normal = list_all-from good is_normal (flat_map conjuncts rs) (λ r g. (and_parts (is_normal r) _ g).0) all_good
    in
    let flat = list_all-from good (λ r. not (is_and r)) (flat_map conjuncts rs) (λ r g. (and_parts (is_normal r) _ g).1)
    all_good in
    step normal flat (list_any is_none (meet_sets (flat_map conjuncts rs))) refl
  where
    step : list_all is_normal (flat_map conjuncts rs) ≡ true
        → list_all (λ r. not (is_and r)) (flat_map conjuncts rs) ≡ true →
        (b : Bool) → list_any is_none (meet_sets (flat_map conjuncts rs)) ≡ b
        → is_normal (cond b none (and_of (collected (flat_map conjuncts rs)))) ≡ true
    step normal flat true is = is_normal-none
    step normal flat false is =
        is_normal-and_of (collected (flat_map conjuncts rs))
        (AreMembers-collected (flat_map conjuncts rs) normal flat is)
