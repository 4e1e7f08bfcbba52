-- Literals that ascend are no set of three where they are more.
use Rattle.std.proofs.Common.{◌≡◌, ℕ, suc, ◌+◌, ◌<◌, Bool, true, false, not, ◌&&◌, ◌||◌, ◌⊎◌, inl, inr, nat_lt, List, [], ◌∷◌, length, refl, sym, ap, arith}
use Rattle.std.specs.List.{list_any}
use Rattle.std.proofs.lemmas.Bool.{and_parts, and_left, and_right, or_cases, or_from, false≢true, true≢false, ltb-true}
use Rattle.sb_lit.specs.declared.clause.Lit.{Lit}
use Rattle.sb_lit.specs.Clauses.{is_same_literal, is_among, are_among, are_ascending}
use Rattle.sb_lit.proofs.CallerLemmas.{is_same_literal-true}
use Rattle.sb_rulebook.specs.Atoms.{Atom}
use Rattle.sb_rulebook.specs.Gates.{is_set_of, atom_of, differ_in_sign}
use Rattle.sb_rulebook.specs.Splits.{is_cut, is_split, is_end, is_split_by, is_step_of, is_step}
use Rattle.sb_sound.specs.HintLaws.{Ascend, StandsBefore, by_atom, by_sign}
use Rattle.sb_sound.proofs.CallerLemmas.{ascend_form}
use Rattle.sb_rules.specs.Stepping.{is_split_with, begins_step}

-- Numbers that rise as literals do.

abbrev rank_of : Bool → ℕ → ℕ
rank_of true n = n + n
rank_of false n = suc (n + n)

abbrev rank : Lit → ℕ
rank l = rank_of l.positive l.atom

lower : (p q : Bool) (i j : ℕ) → i < j → rank_of p i < rank_of q j
lower true true i j h = omega (arith, h)
lower true false i j h = omega (arith, h)
lower false true i j h = omega (arith, h)
lower false false i j h = omega (arith, h)

signed : (p q : Bool) (i j : ℕ) → i ≡ j → p ≡ true → q ≡ false → rank_of p i < rank_of q j
signed true false i j e h k = omega (arith, e)
signed false q i j e h k = absurd (false≢true h)
signed true true i j e h k = absurd (true≢false k)

rises : (l m : Lit) → StandsBefore l m → rank l < rank m
rises l m (by_atom below) = lower l.positive m.positive l.atom m.atom below
rises l m (by_sign same plus minus) = signed l.positive m.positive l.atom m.atom same plus minus

-- Of three numbers there are no four that rise.

abbrev OneOf : ℕ → ℕ → ℕ → ℕ → Type 0
OneOf a b c n = (n ≡ a) ⊎ ((n ≡ b) ⊎ (n ≡ c))

no_three : (a b p q r : ℕ) → p < q → q < r → (p ≡ a) ⊎ (p ≡ b) → (q ≡ a) ⊎ (q ≡ b) → (r ≡ a) ⊎ (r ≡ b) → ⊥
no_three a b p q r l k (inl e) (inl f) h = omega (arith, l, e, f)
no_three a b p q r l k (inl e) (inr f) (inl g) = omega (arith, l, k, e, g)
no_three a b p q r l k (inl e) (inr f) (inr g) = omega (arith, k, f, g)
no_three a b p q r l k (inr e) (inr f) h = omega (arith, l, e, f)
no_three a b p q r l k (inr e) (inl f) (inl g) = omega (arith, k, f, g)
no_three a b p q r l k (inr e) (inl f) (inr g) = omega (arith, l, k, e, g)

without_first : (a b c p n : ℕ) → p ≡ a → p < n → OneOf a b c n → (n ≡ b) ⊎ (n ≡ c)
without_first a b c p n e l (inl f) = absurd (omega (arith, e, l, f))
without_first a b c p n e l (inr rest) = rest

without_second : (a b c p n : ℕ) → p ≡ b → p < n → OneOf a b c n → (n ≡ a) ⊎ (n ≡ c)
without_second a b c p n e l (inl f) = inl f
without_second a b c p n e l (inr (inl f)) = absurd (omega (arith, e, l, f))
without_second a b c p n e l (inr (inr f)) = inr f

without_third : (a b c p n : ℕ) → p ≡ c → p < n → OneOf a b c n → (n ≡ a) ⊎ (n ≡ b)
without_third a b c p n e l (inl f) = inl f
without_third a b c p n e l (inr (inl f)) = inr f
without_third a b c p n e l (inr (inr f)) = absurd (omega (arith, e, l, f))

no_four : (a b c p q r s : ℕ) → p < q → q < r → r < s → OneOf a b c p → OneOf a b c q → OneOf a b c r → OneOf a b c s
    → ⊥
no_four a b c p q r s l k m (inl e) x y z =
    let pr : p < r = omega (arith, l, k) in
    let ps : p < s = omega (arith, l, k, m) in
    no_three b c q r s k m (without_first a b c p q e l x) (without_first a b c p r e pr y)
    (without_first a b c p s e ps z)
no_four a b c p q r s l k m (inr (inl e)) x y z =
    let pr : p < r = omega (arith, l, k) in
    let ps : p < s = omega (arith, l, k, m) in
    no_three a c q r s k m (without_second a b c p q e l x) (without_second a b c p r e pr y)
    (without_second a b c p s e ps z)
no_four a b c p q r s l k m (inr (inr e)) x y z =
    let pr : p < r = omega (arith, l, k) in
    let ps : p < s = omega (arith, l, k, m) in
    no_three a b q r s k m (without_third a b c p q e l x) (without_third a b c p r e pr y)
    (without_third a b c p s e ps z)

-- A literal among a few.

abbrev AreFew : List Lit → ℕ → ℕ → ℕ → Type 0
AreFew few a b c = (l : Lit) → is_among few l ≡ true → OneOf a b c (rank l)

same_rank : (m l : Lit) → is_same_literal m l ≡ true → rank l ≡ rank m
same_rank m l h = ap rank (sym (is_same_literal-true m l h))

one_alone : (a l : Lit) → (is_same_literal a l || false) ≡ true → rank l ≡ rank a
one_alone a l h = elim (or_cases (is_same_literal a l) false h) [
  | inl here ↦ same_rank a l here
  | inr other ↦ absurd (false≢true other)
]

few_one : (a : Lit) → AreFew (a ∷ []) (rank a) (rank a) (rank a)
few_one a l h = inl (one_alone a l h)

few_two : (a c : Lit) → AreFew (a ∷ c ∷ []) (rank a) (rank c) (rank c)
few_two a c l h = elim (or_cases (is_same_literal a l) (is_same_literal c l || false) h) [
  | inl here ↦ inl (same_rank a l here)
  | inr other ↦ inr (inl (one_alone c l other))
]

few_three : (b a c : Lit) → AreFew (b ∷ a ∷ c ∷ []) (rank b) (rank a) (rank c)
few_three b a c l h = elim (or_cases (is_same_literal b l) (is_same_literal a l || (is_same_literal c l || false)) h) [
  | inl here ↦ inl (same_rank b l here)
  | inr rest ↦ inr (elim (or_cases (is_same_literal a l) (is_same_literal c l || false) rest) [
    | inl here ↦ inl (same_rank a l here)
    | inr other ↦ inr (one_alone c l other)
  ])
]

-- More than three literals that ascend are not among a few.

not_among : (few : List Lit) (a b c : ℕ) → AreFew few a b c → (p q r s : Lit) (ls : List Lit)
    → Ascend (p ∷ q ∷ r ∷ s ∷ ls) → are_among (p ∷ q ∷ r ∷ s ∷ ls) few ≡ true → ⊥
not_among few a b c few_is p q r s ls ascend h =
    let one = and_parts (is_among few p) (are_among (q ∷ r ∷ s ∷ ls) few) h in
    let two = and_parts (is_among few q) (are_among (r ∷ s ∷ ls) few) one.1 in
    let three = and_parts (is_among few r) (are_among (s ∷ ls) few) two.1 in
    let four = and_parts (is_among few s) (are_among ls few) three.1 in
    no_four a b c (rank p) (rank q) (rank r) (rank s) (rises p q ascend.0) (rises q r ascend.1.0)
    (rises r s ascend.1.1.0) (few_is p one.0) (few_is q two.0) (few_is r three.0)
    (few_is s four.0)

long_not : (few : List Lit) (a b c : ℕ) → AreFew few a b c → (clause : List Lit) → Ascend clause → 3 < length clause
    → are_among clause few ≡ true → ⊥
long_not few a b c few_is [] ascend long h = omega (arith, long)
long_not few a b c few_is (p ∷ []) ascend long h = omega (arith, long)
long_not few a b c few_is (p ∷ q ∷ []) ascend long h = omega (arith, long)
long_not few a b c few_is (p ∷ q ∷ r ∷ []) ascend long h = omega (arith, long)
long_not few a b c few_is (p ∷ q ∷ r ∷ s ∷ ls) ascend long h = not_among few a b c few_is p q r s ls ascend h

no_set : (few : List Lit) (a b c : ℕ) → AreFew few a b c → (clause : List Lit) → Ascend clause → 3 < length clause
    → is_set_of clause few ≡ false
no_set few a b c few_is clause ascend long = by (is_set_of clause few) refl
  where
    by : (t : Bool) → is_set_of clause few ≡ t → t ≡ false
    by true h =
        let parts = and_parts (are_among clause few) (are_among few clause) h in
        absurd (long_not few a b c few_is clause ascend long parts.0)
    by false h = refl

-- So no clause of more than three literals is a step.

none_any : (test : Lit → Bool) (ls : List Lit) → ((l : Lit) → test l ≡ false) → list_any test ls ≡ false
none_any test [] h = refl
none_any test (l ∷ ls) h = or_from (test l) (list_any test ls) (h l) (none_any test ls h)

module _ (atoms : List Atom) (clause : List Lit) (ascend : Ascend clause) (long : 3 < length clause) where
  no_third : (a c b : Lit) → is_split_with atoms clause a c b ≡ false
  no_third a c b =
      and_right (not b.positive) _
      (and_left (is_set_of clause (b ∷ a ∷ c ∷ [])) (is_split (atom_of atoms a) (atom_of atoms b) (atom_of atoms c))
      (no_set (b ∷ a ∷ c ∷ []) (rank b) (rank a) (rank c) (few_three b a c) clause ascend long))

  no_second : (a c : Lit) → is_step_of atoms clause a c ≡ false
  no_second a c =
      and_right (differ_in_sign a c) _
      (or_from (is_set_of clause (a ∷ c ∷ []) && is_cut (atom_of atoms a) (atom_of atoms c))
      (is_split_by atoms clause a c)
      (and_left (is_set_of clause (a ∷ c ∷ [])) (is_cut (atom_of atoms a) (atom_of atoms c))
      (no_set (a ∷ c ∷ []) (rank a) (rank c) (rank c) (few_two a c) clause ascend long))
      (none_any (is_split_with atoms clause a c) clause (no_third a c)))

  no_first : (a : Lit) → begins_step atoms clause a ≡ false
  no_first a =
      or_from (is_set_of clause (a ∷ []) && is_end a.positive (atom_of atoms a))
      (list_any (is_step_of atoms clause a) clause)
      (and_left (is_set_of clause (a ∷ [])) (is_end a.positive (atom_of atoms a))
      (no_set (a ∷ []) (rank a) (rank a) (rank a) (few_one a) clause ascend long))
      (none_any (is_step_of atoms clause a) clause (no_second a))

pub long_no_step : (atoms : List Atom) (clause : List Lit) → are_ascending clause ≡ true
    → nat_lt 3 (length clause) ≡ true → false ≡ is_step atoms clause
long_no_step atoms clause ascending long =
    sym (none_any (begins_step atoms clause) clause
    (no_first atoms clause (ascend_form clause ascending) (ltb-true 3 (length clause) long)))
