-- Which lengths a set has, by the operations on bits.
use Rattle.std.proofs.Common.{◌≡◌, ℕ, zero, suc, ◌+◌, ◌*◌, ◌-◌, ◌/◌, ◌%◌, ◌^◌, ◌<◌, ◌≤◌, Bool, true, false, not, ◌&&◌, ◌||◌, ◌==◌, nat_le, nat_eq, max, min, bit_and, bit_or, refl, sym, ap, ◌∙◌, arith}
use Rattle.std.specs.Int.{bit_at}
use Rattle.std.specs.Int.RustNames.{bit_xor}
use Rattle.std.proofs.lemmas.Bool.Decides.{nat_tests}
use Rattle.std.proofs.lemmas.Nat.{one_shl, shr_split, and_mask, pow_pos}
use Rattle.std.proofs.lemmas.Nat.Bits.{bit_at-zero, bit_at_ones, bit_at-lt, bit_at-suc, bit_at_lowest, bit_at_or, bit_at_and, bit_at_xor, bit_at-pow_same, bit_at-pow_other, bit_at_cat_low, bit_at_cat_high, shr_and_one}
use Rattle.sb_lengths.specs.LengthSets.{has}

pub has_zero : (n : ℕ) → has 0 n ≡ false
unfolding has
has_zero n = ap (λ b. b == 1) (bit_at-zero n)

pub has_full : (n : ℕ) → n < 64 → has 18446744073709551615 n ≡ true
unfolding has
has_full n h = ap (λ b. b == 1) (bit_at_ones 64 n h)

either_bit : (x y : ℕ) → x < 2 → y < 2 → (max x y == 1) ≡ ((x == 1) || (y == 1))
either_bit zero zero p q = refl
either_bit zero (suc zero) p q = refl
either_bit (suc zero) zero p q = refl
either_bit (suc zero) (suc zero) p q = refl
either_bit zero (suc (suc y)) p q = absurd (omega arith)
either_bit (suc zero) (suc (suc y)) p q = absurd (omega arith)
either_bit (suc (suc x)) y p q = absurd (omega arith)

both_bits : (x y : ℕ) → x < 2 → y < 2 → (min x y == 1) ≡ ((x == 1) && (y == 1))
both_bits zero zero p q = refl
both_bits zero (suc zero) p q = refl
both_bits (suc zero) zero p q = refl
both_bits (suc zero) (suc zero) p q = refl
both_bits zero (suc (suc y)) p q = absurd (omega arith)
both_bits (suc zero) (suc (suc y)) p q = absurd (omega arith)
both_bits (suc (suc x)) y p q = absurd (omega arith)

other_bit : (x : ℕ) → x < 2 → ((x + 1) % 2 == 1) ≡ not (x == 1)
other_bit zero p = refl
other_bit (suc zero) p = refl
other_bit (suc (suc x)) p = absurd (omega arith)

pub not_one : (x : ℕ) → (x ≡ 1 → ⊥) → (x == 1) ≡ false
not_one zero h = refl
not_one (suc zero) h = absurd (h refl)
not_one (suc (suc x)) h = grind (arith, nat_tests)

pub has_or : (a b n : ℕ) → has (bit_or a b) n ≡ (has a n || has b n)
unfolding has
has_or a b n =
    ap (λ x. x == 1) (bit_at_or a b n) ∙ either_bit (bit_at a n) (bit_at b n) (bit_at-lt a n) (bit_at-lt b n)

pub has_and : (a b n : ℕ) → has (bit_and a b) n ≡ (has a n && has b n)
unfolding has
has_and a b n =
    ap (λ x. x == 1) (bit_at_and a b n) ∙ both_bits (bit_at a n) (bit_at b n) (bit_at-lt a n) (bit_at-lt b n)

pub has_not : (a n : ℕ) → n < 64 → has (bit_xor a 18446744073709551615) n ≡ not (has a n)
unfolding has
has_not a n h =
    ap (λ x. x == 1) (bit_at_xor a 18446744073709551615 n ∙ ap (λ x. (bit_at a n + x) % 2) (bit_at_ones 64 n h))
    ∙ other_bit (bit_at a n) (bit_at-lt a n)

pub has_one_shifted : (k n : ℕ) → k < 64 → has (1 * 2 ^ k % 18446744073709551616) n ≡ (n == k)
unfolding has
has_one_shifted k n h = ap (λ x. has x n) (one_shl k 64 h) ∙ step (nat_eq n k) refl
  where
    step : (b : Bool) → nat_eq n k ≡ b → has (2 ^ k) n ≡ (n == k)
    step true is =
        let e : n ≡ k = grind (arith, nat_tests) in
        ap (λ i. bit_at (2 ^ k) i == 1) e ∙ ap (λ x. x == 1) (bit_at-pow_same k) ∙ sym is
    step false is = ap (λ x. x == 1) (bit_at-pow_other k n (λ e. grind (arith, nat_tests))) ∙ sym is

-- the lowest bit, and the bits above it
pub has_lowest : (a : ℕ) → has a 0 ≡ (bit_and a 1 == 1)
unfolding has
has_lowest a = ap (λ x. x == 1) (bit_at_lowest a ∙ sym (and_mask a 1))

pub has_tested : (a n : ℕ) → has a n ≡ (bit_and (a / 2 ^ n) 1 == 1)
unfolding has
has_tested a n = ap (λ x. x == 1) (sym (shr_and_one a n))

pub has_above : (a n : ℕ) → has a (suc n) ≡ has (a / 2) n
unfolding has
has_above a n = ap (λ x. x == 1) (bit_at-suc a n)

bit_at_low : (a n : ℕ) → n < 64 → bit_at (a % 2 ^ 64) n ≡ bit_at a n
bit_at_low a n h =
    sym (bit_at_cat_low (a / 2 ^ 64) 64 (a % 2 ^ 64) n h) ∙ ap (λ x. bit_at x n) (shr_split a 64)

-- moved up by k
pub has_moved : (a k n : ℕ) → n < 64 → has (a * 2 ^ k % 18446744073709551616) n ≡ (nat_le k n && has a (n - k))
unfolding has
has_moved a k n h = ap (λ x. x == 1) (bit_at_low (a * 2 ^ k) n h) ∙ step (nat_le k n) refl
  where
    whole : a * 2 ^ k ≡ a * 2 ^ k + 0
    whole = omega arith

    step : (b : Bool) → nat_le k n ≡ b → (bit_at (a * 2 ^ k) n == 1) ≡ (nat_le k n && has a (n - k))
    step true is =
        let l : k ≤ n = grind (arith, nat_tests) in
        ap (λ x. bit_at x n == 1) whole
        ∙ ap (λ x. x == 1) (bit_at_cat_high a k 0 n (pow_pos k) l)
        ∙ ap (λ b. b && has a (n - k)) (sym is)
    step false is =
        let l : n < k = grind (arith, nat_tests) in
        ap (λ x. bit_at x n == 1) whole
        ∙ ap (λ x. x == 1) (bit_at_cat_low a k 0 n l ∙ bit_at-zero n)
        ∙ ap (λ b. b && has a (n - k)) (sym is)
