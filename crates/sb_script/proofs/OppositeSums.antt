-- The difference of two sums is opposite to the one the other way around, and so as small.
use Rattle.std.proofs.Common.{◌≡◌, ℕ, suc, ◌<◌, Bool, true, false, ◌&&◌, ◌==◌, nat_le, if◌then◌else◌, List, [], ◌∷◌, length, Some, refl, sym, ap, ap₂, ◌∙◌, subst, arith}
use Rattle.std.specs.Prelude.{ℤ, pos, ◌+ℤ◌, ◌-ℤ◌, ◌*ℤ◌, neg_ℤ, int_le}
use Rattle.std.specs.List.{list_all}
use Rattle.std.specs.Ordering.{nat_cmp, int_eq}
use Rattle.std.specs.declared.cmp.Ordering.{Ordering}
use Rattle.std.specs.declared.cmp.Ordering.TheVariants.{Less, Equal, Greater}
use Rattle.std.proofs.lemmas.Cmp.{ranked}
use Rattle.std.proofs.lemmas.Int.{ints}
use Rattle.std.proofs.lemmas.Bool.{and_parts, and_from, false≢true}
use Rattle.std.proofs.lemmas.Bool.Decides.{nat_tests, Decides-int_eq}
use Rattle.std.proofs.Math.IntN.{zero-*ℤ, pred_ℤ-*ℤ, +ℤ_idl, +ℤ_idr, neg_ℤ-+ℤ}
use Rattle.sb_meaning.specs.Terms.{Term}
use Rattle.sb_script.specs.Sums.{Summand, serial_of, size_limit, is_within, Sum, onto_sum, with_summand, with_summands, times_each, subtracted, is_small, sum_of}
use Rattle.sb_script.proofs.OrderedSums.{Ordered, subtracted_ordered, sum_ordered}

-- Factors by serial.

abbrev factor_in : Summand → ℕ → ℤ
factor_in s n = if serial_of s.1 == n then s.0 else pos 0

-- what stands before the variable of a serial, 0 where it does not occur
abbrev factor_of : List Summand → ℕ → ℤ
factor_of [] n = pos 0
factor_of (s ∷ ss) n = factor_in s n +ℤ factor_of ss n

onto_factor : (s : Summand) (ss : List Summand) (n : ℕ)
    → factor_of (onto_sum s ss) n ≡ factor_in s n +ℤ factor_of ss n
onto_factor s ss n = step (int_eq s.0 (pos 0)) refl
  where
    nothing : (b : Bool) → s.0 ≡ pos 0 → (if b then s.0 else pos 0) ≡ pos 0
    nothing true e = e
    nothing false e = refl

    step : (b : Bool) → int_eq s.0 (pos 0) ≡ b
        → factor_of (if b then ss else s ∷ ss) n ≡ factor_in s n +ℤ factor_of ss n
    step true e =
        sym (+ℤ_idl (factor_of ss n))
        ∙ ap (λ (z : ℤ). z +ℤ factor_of ss n)
        (sym (nothing (serial_of s.1 == n) ((Decides-int_eq s.0 (pos 0)).0 e)))
    step false e = refl

swap_first : (a b c : ℤ) → b +ℤ (a +ℤ c) ≡ a +ℤ (b +ℤ c)
swap_first a b c = omega (arith, ints)

group : (a b c : ℤ) → (a +ℤ b) +ℤ c ≡ a +ℤ (b +ℤ c)
group a b c = omega (arith, ints)

with_factor : (s : Summand) (ts : List Summand) (n : ℕ)
    → factor_of (with_summand s ts) n ≡ factor_in s n +ℤ factor_of ts n
with_factor s [] n = onto_factor s [] n
with_factor s (t ∷ ts) n = step (nat_cmp (serial_of s.1) (serial_of t.1)) refl (with_factor s ts n)
  where
    both : (b : Bool) (c : ℤ) → (if b then s.0 +ℤ t.0 else pos 0) +ℤ c
        ≡ (if b then s.0 else pos 0) +ℤ ((if b then t.0 else pos 0) +ℤ c)
    both true c = group s.0 t.0 c
    both false c = group (pos 0) (pos 0) c

    step : (o : Ordering) → o ≡ nat_cmp (serial_of s.1) (serial_of t.1)
        → factor_of (with_summand s ts) n ≡ factor_in s n +ℤ factor_of ts n
        → factor_of (elim o as (λ _. List Summand) [
          | Less ↦ onto_sum s (t ∷ ts)
          | Equal ↦ onto_sum (s.0 +ℤ t.0, t.1) ts
          | Greater ↦ t ∷ with_summand s ts
        ]) n ≡ factor_in s n +ℤ factor_of (t ∷ ts) n
    step Less is more = onto_factor s (t ∷ ts) n
    step Equal is more =
        let same : serial_of s.1 ≡ serial_of t.1 = ranked (serial_of s.1) (serial_of t.1) Equal is in
        onto_factor (s.0 +ℤ t.0, t.1) ts n ∙ both (serial_of t.1 == n) (factor_of ts n)
        ∙ ap (λ (k : ℕ). (if k == n then s.0 else pos 0) +ℤ factor_of (t ∷ ts) n) (sym same)
    step Greater is more =
        ap (λ (z : ℤ). factor_in t n +ℤ z) more ∙ swap_first (factor_in s n) (factor_in t n) (factor_of ts n)

withs_factor : (ss ts : List Summand) (n : ℕ)
    → factor_of (with_summands ss ts) n ≡ factor_of ss n +ℤ factor_of ts n
withs_factor [] ts n = sym (+ℤ_idl (factor_of ts n))
withs_factor (s ∷ ss) ts n =
    with_factor s (with_summands ss ts) n
    ∙ ap (λ (z : ℤ). factor_in s n +ℤ z) (withs_factor ss ts n)
    ∙ sym (group (factor_in s n) (factor_of ss n) (factor_of ts n))

less_one : (x : ℤ) → neg_ℤ (pos 1) *ℤ x ≡ neg_ℤ x
less_one x = pred_ℤ-*ℤ (pos 0) x ∙ ap (λ (n : ℤ). n -ℤ x) (zero-*ℤ x) ∙ +ℤ_idl (neg_ℤ x)

negated_factor : (ss : List Summand) (n : ℕ)
    → factor_of (times_each (neg_ℤ (pos 1)) ss) n ≡ neg_ℤ (factor_of ss n)
negated_factor [] n = refl
negated_factor (s ∷ ss) n =
    onto_factor (neg_ℤ (pos 1) *ℤ s.0, s.1) (times_each (neg_ℤ (pos 1)) ss) n
    ∙ ap₂ ◌+ℤ◌ (one (serial_of s.1 == n)) (negated_factor ss n)
    ∙ sym (neg_ℤ-+ℤ (factor_in s n) (factor_of ss n))
  where
    one : (b : Bool) → (if b then neg_ℤ (pos 1) *ℤ s.0 else pos 0) ≡ neg_ℤ (if b then s.0 else pos 0)
    one true = less_one s.0
    one false = refl

difference_factor : (s t : Sum) (n : ℕ) → factor_of (subtracted s t).summands n
    ≡ factor_of s.summands n +ℤ neg_ℤ (factor_of t.summands n)
difference_factor s t n =
    withs_factor s.summands (times_each (neg_ℤ (pos 1)) t.summands) n
    ∙ ap (λ (z : ℤ). factor_of s.summands n +ℤ z) (negated_factor t.summands n)

turned : (a b : ℤ) → a +ℤ neg_ℤ b ≡ neg_ℤ (b +ℤ neg_ℤ a)
turned a b = omega (arith, ints)

-- Opposite sums.

abbrev Opposite : List Summand → List Summand → Type 0
Opposite [] [] = Unit {0}
Opposite (x ∷ xs) (y ∷ ys) = (x.0 ≡ neg_ℤ y.0) × Opposite xs ys
Opposite _ _ = ⊥

other : (m n : ℕ) → n < m → (m == n) ≡ false
other m n h = grind (arith, nat_tests)

itself : (n : ℕ) → (n == n) ≡ true
itself n = grind (arith, nat_tests)

-- no variable of a lower serial occurs
lower_factor : (low : ℕ) (xs : List Summand) (n : ℕ) → Ordered low xs → n < low → factor_of xs n ≡ pos 0
lower_factor low [] n h less = refl
lower_factor low (x ∷ xs) n h less =
    let first = h.0 in
    ap₂ ◌+ℤ◌ (ap (λ b. if b then x.0 else pos 0) (other (serial_of x.1) n (omega arith)))
    (lower_factor (suc (serial_of x.1)) xs n h.2 (omega arith))

first_factor : (low : ℕ) (x : Summand) (xs : List Summand) → Ordered low (x ∷ xs)
    → factor_of (x ∷ xs) (serial_of x.1) ≡ x.0
first_factor low x xs h =
    ap₂ ◌+ℤ◌ (ap (λ b. if b then x.0 else pos 0) (itself (serial_of x.1)))
    (lower_factor (suc (serial_of x.1)) xs (serial_of x.1) h.2 (omega arith))
    ∙ +ℤ_idr x.0

not_nothing : (c : ℤ) → int_eq c (pos 0) ≡ false → c ≡ pos 0 → ⊥
not_nothing c h e = false≢true (sym h ∙ (Decides-int_eq c (pos 0)).1 e)

nothing_opposite : (c : ℤ) → pos 0 ≡ neg_ℤ c → c ≡ pos 0
nothing_opposite c e = omega (arith, ints)

cancelled : (a b c d : ℤ) → a +ℤ c ≡ neg_ℤ (b +ℤ d) → a ≡ neg_ℤ b → c ≡ neg_ℤ d
cancelled a b c d e f = omega (arith, ints)

opposite : (low : ℕ) (xs ys : List Summand) → Ordered low xs → Ordered low ys
    → ((n : ℕ) → factor_of xs n ≡ neg_ℤ (factor_of ys n)) → Opposite xs ys
opposite low [] [] h k e = tt
opposite low [] (y ∷ ys) h k e =
    not_nothing y.0 k.1
    (nothing_opposite y.0 (e (serial_of y.1) ∙ ap neg_ℤ (first_factor low y ys k)))
opposite low (x ∷ xs) [] h k e =
    not_nothing x.0 h.1 (sym (first_factor low x xs h) ∙ e (serial_of x.1))
opposite low (x ∷ xs) (y ∷ ys) h k e =
    step (nat_cmp (serial_of x.1) (serial_of y.1)) refl (opposite (suc (serial_of x.1)) xs ys h.2)
  where
    rest : serial_of x.1 ≡ serial_of y.1 → x.0 ≡ neg_ℤ y.0 → (n : ℕ) → factor_of xs n ≡ neg_ℤ (factor_of ys n)
    rest same first n =
        cancelled (factor_in x n) (factor_in y n) (factor_of xs n) (factor_of ys n) (e n)
        (ap (λ (k : ℕ). if k == n then x.0 else pos 0) same ∙ here (serial_of y.1 == n))
      where
        here : (b : Bool) → (if b then x.0 else pos 0) ≡ neg_ℤ (if b then y.0 else pos 0)
        here true = first
        here false = refl

    step : (o : Ordering) → o ≡ nat_cmp (serial_of x.1) (serial_of y.1)
        → (Ordered (suc (serial_of x.1)) ys → ((n : ℕ) → factor_of xs n ≡ neg_ℤ (factor_of ys n)) → Opposite xs ys)
        → Opposite (x ∷ xs) (y ∷ ys)
    step Less is later =
        let less : serial_of x.1 < serial_of y.1 = ranked (serial_of x.1) (serial_of y.1) Less is in
        absurd (not_nothing x.0 h.1 (sym (first_factor low x xs h) ∙ e (serial_of x.1)
        ∙ ap neg_ℤ (lower_factor (serial_of y.1) (y ∷ ys) (serial_of x.1) (omega arith, k.1, k.2) less)))
    step Greater is later =
        let less : serial_of y.1 < serial_of x.1 = ranked (serial_of x.1) (serial_of y.1) Greater is in
        absurd (not_nothing y.0 k.1 (nothing_opposite y.0
        (sym (lower_factor (serial_of x.1) (x ∷ xs) (serial_of y.1) (omega arith, h.1, h.2) less) ∙ e (serial_of y.1)
        ∙ ap neg_ℤ (first_factor low y ys k))))
    step Equal is later =
        let same : serial_of x.1 ≡ serial_of y.1 = ranked (serial_of x.1) (serial_of y.1) Equal is in
        let first : x.0 ≡ neg_ℤ y.0 = sym (first_factor low x xs h) ∙ e (serial_of x.1)
        ∙ ap neg_ℤ (ap (factor_of (y ∷ ys)) same ∙ first_factor low y ys k) in
        (first, later (subst (λ (n : ℕ). Ordered (suc n) ys) (sym same) k.2) (rest same first))

-- Limits.

turned_le : (a b : ℤ) → int_le (neg_ℤ a) (neg_ℤ b) ≡ true → int_le b a ≡ true
turned_le a b h = grind (arith, ints)

moved_le : (a b : ℤ) → int_le (neg_ℤ a) b ≡ true → int_le (neg_ℤ b) a ≡ true
moved_le a b h = grind (arith, ints)

within_opposite : (limit c : ℤ) → is_within limit (neg_ℤ c) ≡ true → is_within limit c ≡ true
within_opposite limit c h =
    let parts = and_parts (int_le (neg_ℤ c) limit) (int_le (neg_ℤ limit) (neg_ℤ c)) h in
    and_from (int_le c limit) (int_le (neg_ℤ limit) c) (turned_le limit c parts.1) (moved_le c limit parts.0)

within_all : (limit : ℤ) (xs ys : List Summand) → Opposite xs ys
    → list_all (λ t. is_within limit t.0) xs ≡ true → list_all (λ t. is_within limit t.0) ys ≡ true
within_all limit [] [] o h = refl
within_all limit [] (y ∷ ys) o h = absurd o
within_all limit (x ∷ xs) [] o h = absurd o
within_all limit (x ∷ xs) (y ∷ ys) o h =
    let parts = and_parts (is_within limit x.0) (list_all (λ t. is_within limit t.0) xs) h in
    and_from (is_within limit y.0) (list_all (λ t. is_within limit t.0) ys)
    (within_opposite limit y.0 (ap (is_within limit) (sym o.0) ∙ parts.0)) (within_all limit xs ys o.1 parts.1)

same_length : (xs ys : List Summand) → Opposite xs ys → length xs ≡ length ys
same_length [] [] o = refl
same_length [] (y ∷ ys) o = absurd o
same_length (x ∷ xs) [] o = absurd o
same_length (x ∷ xs) (y ∷ ys) o = ap suc (same_length xs ys o.1)

-- the number, the factors and the count
small_opposite : (limit : ℤ) (most : ℕ) (d e : Sum) → d.constant ≡ neg_ℤ e.constant → Opposite d.summands e.summands
    → (is_within limit d.constant
    && (list_all (λ t. is_within limit t.0) d.summands && nat_le (length d.summands) most)) ≡ true
    → (is_within limit e.constant
    && (list_all (λ t. is_within limit t.0) e.summands && nat_le (length e.summands) most)) ≡ true
small_opposite limit most d e number o h =
    let parts = and_parts (is_within limit d.constant)
    (list_all (λ t. is_within limit t.0) d.summands && nat_le (length d.summands) most) h in
    let more = and_parts (list_all (λ t. is_within limit t.0) d.summands) (nat_le (length d.summands) most) parts.1 in
    and_from (is_within limit e.constant)
    (list_all (λ t. is_within limit t.0) e.summands && nat_le (length e.summands) most)
    (within_opposite limit e.constant (ap (is_within limit) (sym number) ∙ parts.0))
    (and_from (list_all (λ t. is_within limit t.0) e.summands) (nat_le (length e.summands) most)
    (within_all limit d.summands e.summands o more.0)
    (ap (λ n. nat_le n most) (sym (same_length d.summands e.summands o)) ∙ more.1))

pub small_both_ways : (a b : Term) (s t : Sum) → sum_of a ≡ Some s → sum_of b ≡ Some t
    → is_small (subtracted s t) ≡ true → is_small (subtracted t s) ≡ true
small_both_ways a b s t first second h =
    let s_ordered = sum_ordered a s first in
    let t_ordered = sum_ordered b t second in
    small_opposite size_limit 1000 (subtracted s t) (subtracted t s)
    (ap (λ (z : ℤ). s.constant +ℤ z) (less_one t.constant) ∙ turned s.constant t.constant
    ∙ ap (λ (z : ℤ). neg_ℤ (t.constant +ℤ z)) (sym (less_one s.constant)))
    (opposite 0 (subtracted s t).summands (subtracted t s).summands
    (subtracted_ordered s t s_ordered t_ordered) (subtracted_ordered t s t_ordered s_ordered)
    (λ n. difference_factor s t n ∙ turned (factor_of s.summands n) (factor_of t.summands n)
    ∙ ap neg_ℤ (sym (difference_factor t s n)))) h
