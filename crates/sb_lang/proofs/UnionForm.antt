-- `mkalt` of normal members is normal.
use Rattle.std.proofs.Common.{◌≡◌, ℕ, zero, suc, ◌≤◌, Bool, true, false, not, ◌&&◌, ◌||◌, cond, ◌⊎◌, nat_lt, List, [], ◌∷◌, length, refl, sym, ap, ap₂, ◌∙◌, arith, inl, inr, subst}
use Rattle.std.specs.List.{list_any, list_all, filter, flat_map}
use Rattle.std.proofs.lemmas.Bool.{and_parts, or_cases, false≢true, ltb-true, lt-ltb}
use Rattle.sb_class.specs.Ranges.{Range}
use Rattle.sb_lang.specs.Regex.{Regex, Regexes, none, set, alt, neg, regexes, parts}
use Rattle.sb_lang.specs.Order.{code, codes, regex_eq}
use Rattle.sb_lang.specs.Constructors.{anything, is_none, is_anything, mkset, alternatives, is_set, union_of, join_sets, sorted, alt_of, mkalt, mknot}
use Rattle.sb_lang.specs.NormalForm.{is_normal, all_normal}
use Rattle.sb_lang.proofs.OrderFacts.{same_regex, regex_eq-itself, regex_eq-from}
use Rattle.sb_lang.proofs.SetFacts.{union-nil}
use Rattle.sb_lang.proofs.MemberFacts.{parts-regexes}
use Rattle.sb_lang.proofs.SortedFacts.{sets_in, without_sets, list_all-filter, filter-passes, list_all-from, list_all-both, list_all-flat, list_all-none, list_any-none, list_all-sorted, ascending-sorted, without_sets-whole, sets_in-without, has_set, sets_in-one, sets_in-sorted, sets_in-filter, one_set_in, sorted_again, sorted_whole}
use Rattle.sb_lang.proofs.MemberLists.{AreMembers, all_normal-parts, size, parts-small, IsCanonical-normal, is_normal-mkset, sets_in-canonical, IsCanonical-union_of, mkset-normal, few_in_mkset}

unfoldable pub is_alt : Regex → Bool
is_alt (alt ps) = true
is_alt r = false

-- the members as they come to stand
abbrev pub collected : List Regex → List Regex
collected rs = sorted (filter (λ r. not (is_none r)) (join_sets rs))

abbrev one_set : List Regex → Regex
one_set rs = mkset (union_of (sets_in rs))

list_all-collected : (p : Regex → Bool) (rs : List Regex) → p (one_set rs) ≡ true → list_all p rs ≡ true
    → list_all p (collected rs) ≡ true
unfolding join_sets
list_all-collected p rs one all =
    list_all-sorted p (filter (λ r. not (is_none r)) (join_sets rs))
    ∙ list_all-filter p (λ r. not (is_none r)) (join_sets rs)
    (ap₂ ◌&&◌ one (list_all-filter p (λ r. not (is_set r)) rs all))

-- A union that is normal has no unions among its members, since a member's code is shorter.

small : ℕ → Regex → Bool
small k r = not (is_alt r) || nat_lt (size r) k

small-mkset : (k : ℕ) (s : List Range) → small k (mkset s) ≡ true
unfolding small is_alt mkset
small-mkset k [] = refl
small-mkset k (r ∷ rs) = refl

small-alternatives : (k : ℕ) (r : Regex) → small (suc k) r ≡ true → list_all (small k) (alternatives r) ≡ true
unfolding small is_alt alternatives code codes
small-alternatives k (alt ps) h =
    let lt = ltb-true (size (alt ps)) (suc k) h in
    list_all-from (λ r. nat_lt (size r) k) (small k) (parts ps) (λ r g. or_right (not (is_alt r)) _ g)
    (parts-small ps k (omega (arith, lt)))
  where
    or_right : (x y : Bool) → y ≡ true → (x || y) ≡ true
    or_right true y g = refl
    or_right false y g = g
small-alternatives k r h = refl

small-collected : (k : ℕ) (rs : List Regex) → list_all (small (suc k)) rs ≡ true
    → list_all (small k) (collected (flat_map alternatives rs)) ≡ true
small-collected k rs h =
    list_all-collected (small k) (flat_map alternatives rs)
    (small-mkset k (union_of (sets_in (flat_map alternatives rs))))
    (list_all-flat (small k) (small (suc k)) alternatives rs (small-alternatives k) h)

small-zero : (r : Regex) → small 0 r ≡ true → not (is_alt r) ≡ true
unfolding small
small-zero r h = elim (or_cases (not (is_alt r)) (nat_lt (size r) 0) h)
    [ inl e ↦ e | inr lt ↦ absurd (omega (arith, ltb-true (size r) 0 lt)) ]

none_left : (k : ℕ) (rs : List Regex) → rs ≡ collected (flat_map alternatives rs) → list_all (small k) rs ≡ true
    → list_all (λ r. not (is_alt r)) rs ≡ true
none_left zero rs same h = list_all-from (small 0) (λ r. not (is_alt r)) rs small-zero h
none_left (suc k) rs same h = none_left k rs same (ap (list_all (small k)) same ∙ small-collected k rs h)

small_parts : (ps : Regexes) → list_all (small (size (alt ps))) (parts ps) ≡ true
unfolding small code codes
small_parts ps =
    list_all-from (λ r. nat_lt (size r) (length (codes ps))) (small (suc (length (codes ps)))) (parts ps)
    (λ r g. wider (not (is_alt r)) (size r) (length (codes ps)) g) (parts-small ps (length (codes ps)) (omega arith))
  where
    wider : (x : Bool) (n k : ℕ) → nat_lt n k ≡ true → (x || nat_lt n (suc k)) ≡ true
    wider true n k g = refl
    wider false n k g = lt-ltb n (suc k) (omega (arith, ltb-true n k g))

-- Members of a list that is collected.

no_alt_in : (s : List Range) → not (is_alt (mkset s)) ≡ true
unfolding is_alt mkset
no_alt_in [] = refl
no_alt_in (r ∷ rs) = refl

few_joined : (rs : List Regex) → length (sets_in (join_sets rs)) ≤ 1
unfolding join_sets
few_joined rs =
    omega (
      arith,
      sets_in-one (one_set rs) (without_sets rs),
      few_in_mkset (union_of (sets_in rs)),
      ap length (sets_in-without rs),
    )

pub AreMembers-collected : (rs : List Regex) → list_all is_normal rs ≡ true → list_all (λ r. not (is_alt r)) rs ≡ true
    → list_any is_anything (join_sets rs) ≡ false → AreMembers is_alt (collected rs)
AreMembers-collected rs normal flat plain = record {
  normal = list_all-collected is_normal rs
      (is_normal-mkset (union_of (sets_in rs)) (IsCanonical-union_of (sets_in rs) (sets_in-canonical rs normal)))
      normal;
  flat = list_all-collected (λ r. not (is_alt r)) rs (no_alt_in (union_of (sets_in rs))) flat;
  no_none = list_all-sorted (λ r. not (is_none r)) (filter (λ r. not (is_none r)) (join_sets rs))
      ∙ filter-passes (λ r. not (is_none r)) (join_sets rs);
  no_anything =
      list_all-sorted (λ r. not (is_anything r)) (filter (λ r. not (is_none r)) (join_sets rs))
      ∙ list_all-filter (λ r. not (is_anything r)) (λ r. not (is_none r)) (join_sets rs)
      (list_all-none is_anything (join_sets rs) plain);
  few = few_sets;
  rising = ascending-sorted (filter (λ r. not (is_none r)) (join_sets rs));
}
  where
    few_sets : length (sets_in (collected rs)) ≤ 1
    few_sets = omega (
      arith,
      sets_in-sorted (filter (λ r. not (is_none r)) (join_sets rs)),
      sets_in-filter (λ r. not (is_none r)) (join_sets rs),
      few_joined rs,
    )

mkalt-is : (rs : List Regex) → list_any is_anything (join_sets (flat_map alternatives rs)) ≡ false
    → mkalt rs ≡ alt_of (collected (flat_map alternatives rs))
unfolding mkalt
mkalt-is rs plain = ap (λ b. cond b anything (alt_of (collected (flat_map alternatives rs)))) plain

pub flat_map-alternatives : (rs : List Regex) → list_all (λ r. not (is_alt r)) rs ≡ true → flat_map alternatives rs ≡ rs
unfolding is_alt alternatives
flat_map-alternatives [] h = refl
flat_map-alternatives (alt ps ∷ rs) h = absurd (false≢true h)
flat_map-alternatives (r ∷ rs) h = ap (λ xs. r ∷ xs) (flat_map-alternatives rs h)

-- collecting such members changes nothing

collected-plain : (rs : List Regex) → AreMembers is_alt rs → sets_in rs ≡ []
    → (list_any is_anything (join_sets rs) ≡ false) × (collected rs ≡ rs)
unfolding join_sets mkset union_of code codes
collected-plain rs m no_set =
    let is : join_sets rs ≡ none ∷ rs = ap₂ ◌∷◌ (ap (λ ss. mkset (union_of ss)) no_set) (without_sets-whole rs no_set)
    in (
      ap (list_any is_anything) is ∙ list_any-none is_anything rs m.no_anything,
      ap (λ xs. sorted (filter (λ r. not (is_none r)) xs)) is
          ∙ sorted_whole (λ r. not (is_none r)) rs m.no_none m.rising,
    )

collected-one : (rs : List Regex) (s : List Range) → AreMembers is_alt rs → sets_in rs ≡ s ∷ []
    → (list_any is_anything (join_sets rs) ≡ false) × (collected rs ≡ rs)
unfolding join_sets union_of code codes
collected-one rs s m one =
    let normal_set : is_normal (set s) ≡ true = has_set s rs is_normal m.normal one in
    let whole : mkset (union_of (sets_in rs)) ≡ set s =
    ap (λ ss. mkset (union_of ss)) one ∙ ap mkset (union-nil 0 s (IsCanonical-normal s normal_set))
    ∙ mkset-normal s normal_set in
    let is : join_sets rs ≡ set s ∷ without_sets rs = ap (λ x. x ∷ without_sets rs) whole in (
      ap (list_any is_anything) is
          ∙ list_any-none is_anything (without_sets rs)
          (list_all-filter (λ r. not (is_anything r)) (λ r. not (is_set r)) rs m.no_anything),
      ap (λ xs. sorted (filter (λ r. not (is_none r)) xs)) is
          ∙ sorted_again (λ r. not (is_none r)) s rs m.no_none m.rising one,
    )

pub mkalt-members : (rs : List Regex) → AreMembers is_alt rs → mkalt rs ≡ alt_of rs
mkalt-members rs m =
    let flat = flat_map-alternatives rs m.flat in
    let same : (list_any is_anything (join_sets rs) ≡ false) × (collected rs ≡ rs) =
    elim (one_set_in rs m.few) [ inl no_set ↦ collected-plain rs m no_set | inr one ↦ collected-one rs one.0 m one.1 ]
    in
    mkalt-is rs (ap (λ xs. list_any is_anything (join_sets xs)) flat ∙ same.0)
    ∙ ap (λ xs. alt_of (collected xs)) flat ∙ ap alt_of same.1

-- A normal union's members are such.

none_is_no_alt : (ps : Regexes) → none ≡ alt ps → ⊥
none_is_no_alt ps e = cc

anything_is_no_alt : (ps : Regexes) → anything ≡ alt ps → ⊥
anything_is_no_alt ps e = cc

pub alt_parts : (ps qs : Regexes) → alt ps ≡ alt qs → ps ≡ qs
alt_parts ps qs e = cc

alt_of-is_alt : (rs : List Regex) (ps : Regexes) → alt_of rs ≡ alt ps → (parts ps ≡ rs) ⊎ (rs ≡ alt ps ∷ [])
unfolding alt_of
alt_of-is_alt [] ps e = absurd (none_is_no_alt ps e)
alt_of-is_alt (r ∷ []) ps e = inr (ap (λ x. x ∷ []) e)
alt_of-is_alt (r ∷ s ∷ rs) ps e =
    inl (sym (ap parts (alt_parts (regexes (r ∷ s ∷ rs)) ps e)) ∙ parts-regexes (r ∷ s ∷ rs))

mkalt-is_alt : (rs : List Regex) (ps : Regexes) → mkalt rs ≡ alt ps
    → (list_any is_anything (join_sets (flat_map alternatives rs)) ≡ false)
    × (alt_of (collected (flat_map alternatives rs)) ≡ alt ps)
unfolding mkalt
mkalt-is_alt rs ps e = step (list_any is_anything (join_sets (flat_map alternatives rs))) refl e
  where
    step : (b : Bool) → list_any is_anything (join_sets (flat_map alternatives rs)) ≡ b
        → cond b anything (alt_of (collected (flat_map alternatives rs))) ≡ alt ps →
        (list_any is_anything (join_sets (flat_map alternatives rs)) ≡ false)
        × (alt_of (collected (flat_map alternatives rs)) ≡ alt ps)
    step true is e' = absurd (anything_is_no_alt ps e')
    step false is e' = (is, e')

not_small : (ps : Regexes) → small (size (alt ps)) (alt ps) ≡ true → ⊥
unfolding small is_alt
not_small ps h = omega (arith, ltb-true (size (alt ps)) (size (alt ps)) h)

wider_small : (k : ℕ) (r : Regex) → small k r ≡ true → small (suc k) r ≡ true
unfolding small
wider_small k r h = wider (not (is_alt r)) (size r) k h
  where
    wider : (x : Bool) (n k : ℕ) → (x || nat_lt n k) ≡ true → (x || nat_lt n (suc k)) ≡ true
    wider true n k g = refl
    wider false n k g = lt-ltb n (suc k) (omega (arith, ltb-true n k g))

from_collected : (rs : List Regex) → rs ≡ collected rs → AreMembers is_alt (collected rs) → AreMembers is_alt rs
from_collected rs same m = subst (AreMembers is_alt) (sym same) m

pub AreMembers-parts : (ps : Regexes) → is_normal (alt ps) ≡ true → AreMembers is_alt (parts ps)
unfolding is_normal all_normal
AreMembers-parts ps h =
    let both = and_parts (all_normal ps) (regex_eq (mkalt (parts ps)) (alt ps)) h in
    let normal = sym (all_normal-parts ps) ∙ both.0 in
    let is = mkalt-is_alt (parts ps) ps (same_regex (mkalt (parts ps)) (alt ps) both.1) in
    elim (alt_of-is_alt (collected (flat_map alternatives (parts ps))) ps is.1) [
      | inl same ↦
          let flat = none_left (size (alt ps)) (parts ps) same (small_parts ps) in
          let whole = flat_map-alternatives (parts ps) flat in
          let plain = ap (λ xs. list_any is_anything (join_sets xs)) (sym whole) ∙ is.0 in
          let again : parts ps ≡ collected (parts ps) = same ∙ ap collected whole in
          from_collected (parts ps) again (AreMembers-collected (parts ps) normal flat plain)
      | inr alone ↦
          let small_all = small-collected (size (alt ps)) (parts ps)
          (list_all-from (small (size (alt ps))) (small (suc (size (alt ps)))) (parts ps)
          (wider_small (size (alt ps))) (small_parts ps)) in
          absurd (not_small ps ((and_parts (small (size (alt ps)) (alt ps)) true
          (ap (list_all (small (size (alt ps)))) (sym alone) ∙ small_all)).0))
    ]

-- The law.

whole : (rs : List Regex) → AreMembers is_alt rs → mkalt rs ≡ alt (regexes rs)
    → (all_normal (regexes rs) && regex_eq (mkalt (parts (regexes rs))) (alt (regexes rs))) ≡ true
whole rs m is =
    ap₂ ◌&&◌ (all_normal-parts (regexes rs) ∙ ap (list_all is_normal) (parts-regexes rs) ∙ m.normal)
    (regex_eq-from (mkalt (parts (regexes rs))) (alt (regexes rs)) (ap mkalt (parts-regexes rs) ∙ is))

is_normal-anything : is_normal anything ≡ true
unfolding is_normal all_normal mknot
is_normal-anything = regex_eq-itself (neg none)

is_normal-alt_of : (rs : List Regex) → AreMembers is_alt rs → is_normal (alt_of rs) ≡ true
unfolding alt_of is_normal all_normal
is_normal-alt_of [] m = refl
is_normal-alt_of (r ∷ []) m = (and_parts (is_normal r) true m.normal).0
is_normal-alt_of (r ∷ s ∷ rs) m = whole (r ∷ s ∷ rs) m (mkalt-members (r ∷ s ∷ rs) m)

unfoldable pub good : Regex → Bool
good r = is_normal r && not (is_alt r)

pub good-alternatives : (r : Regex) → is_normal r ≡ true → list_all good (alternatives r) ≡ true
unfolding alternatives good is_alt
good-alternatives (alt ps) h =
    let m = AreMembers-parts ps h in
    list_all-both is_normal (λ r. not (is_alt r)) good (parts ps) (λ r a b. ap₂ ◌&&◌ a b) m.normal m.flat
good-alternatives r h = ap (λ b. (b && true) && true) h

pub is_normal-mkalt : (rs : List Regex) → list_all is_normal rs ≡ true → is_normal (mkalt rs) ≡ true
unfolding mkalt good
is_normal-mkalt rs h =
    let all_good = list_all-flat good is_normal alternatives rs good-alternatives h in
    let normal = list_all-from good is_normal (flat_map alternatives rs) (λ r g. (and_parts (is_normal r) _ g).0)
    all_good in
    let flat = list_all-from good (λ r. not (is_alt r)) (flat_map alternatives rs)
    (λ r g. (and_parts (is_normal r) _ g).1) all_good in
    step normal flat (list_any is_anything (join_sets (flat_map alternatives rs))) refl
  where
    step : list_all is_normal (flat_map alternatives rs) ≡ true
        → list_all (λ r. not (is_alt r)) (flat_map alternatives rs) ≡ true →
        (b : Bool) → list_any is_anything (join_sets (flat_map alternatives rs)) ≡ b
        → is_normal (cond b anything (alt_of (collected (flat_map alternatives rs)))) ≡ true
    step normal flat true is = is_normal-anything
    step normal flat false is =
        is_normal-alt_of (collected (flat_map alternatives rs))
        (AreMembers-collected (flat_map alternatives rs) normal flat is)
