-- Hexadecimal digits: what `{:x}` writes of a character, and that the braced escape reads it back.
use Rattle.std.proofs.Common.{◌≡◌, ℕ, zero, suc, ◌+◌, ◌/◌, ◌%◌, ◌^◌, ◌<◌, ◌≤◌, ◌≢◌, Bool, true, false, cond, eqb, List, [], ◌∷◌, length, refl, ap, ◌∙◌, Some, arith}
use Rattle.std.specs.Fmt.{digits, digits_onto, digit_glyph}
use Rattle.std.proofs.lemmas.Fmt.{digits_is_IsNumeral}
use Rattle.std.proofs.lemmas.Bool.Decides.{nat_tests}
use Rattle.std.proofs.Math.Nat.{pow-suc, pow-zero}
use Rattle.sb_word.specs.Literals.{hex_number_from}
use Rattle.sb_word.proofs.DigitLemmas.{hex_number-glyph}

-- the last step of the digits, and each step before it
digits_onto_by : (k n : ℕ) (bs : List ℕ) (t : Bool) → eqb (n / 16) 0 ≡ t
    → digits_onto (suc k) 16 false n bs
    ≡ cond t (digit_glyph false (n % 16) ∷ bs) (digits_onto k 16 false (n / 16) (digit_glyph false (n % 16) ∷ bs))
digits_onto_by k n bs t e =
    ap (λ (b : Bool). cond b (digit_glyph false (n % 16) ∷ bs)
    (digits_onto k 16 false (n / 16) (digit_glyph false (n % 16) ∷ bs))) e

hex_number_step : (k n : ℕ) (bs : List ℕ) (t : Bool) → eqb (n / 16) 0 ≡ t
    → (t ≡ false
    → hex_number_from 0 (digits_onto k 16 false (n / 16) (digit_glyph false (n % 16) ∷ bs))
    ≡ hex_number_from (n / 16) (digit_glyph false (n % 16) ∷ bs))
    → hex_number_from 0 (digits_onto (suc k) 16 false n bs) ≡ hex_number_from n bs
hex_number_step k n bs true e more =
    ap (hex_number_from 0) (digits_onto_by k n bs true e)
    ∙ hex_number-glyph 0 (n % 16) n bs (omega arith) (grind (arith, nat_tests))
hex_number_step k n bs false e more =
    ap (hex_number_from 0) (digits_onto_by k n bs false e) ∙ more refl
    ∙ hex_number-glyph (n / 16) (n % 16) n bs (omega arith) (omega arith)

-- the digits of a number of at most k digits spell it, and the bytes behind them go on
hex_number-digits_onto : (k n : ℕ) (bs : List ℕ) → n < 16 ^ k
    → hex_number_from 0 (digits_onto k 16 false n bs) ≡ hex_number_from n bs
hex_number-digits_onto zero n bs h =
    let e : 0 ≡ n = omega (arith, pow-zero 16) in ap (λ m. hex_number_from m bs) e
hex_number-digits_onto (suc k) n bs h =
    hex_number_step k n bs (eqb (n / 16) 0) refl
    (λ _. hex_number-digits_onto k (n / 16) (digit_glyph false (n % 16) ∷ bs) (omega (arith, pow-suc 16 k)))

length_step : (k n m : ℕ) (bs : List ℕ) (t : Bool) → eqb (n / 16) 0 ≡ t → 1 + length bs ≤ m
    → (n / 16 ≢ 0 → length (digits_onto k 16 false (n / 16) (digit_glyph false (n % 16) ∷ bs)) ≤ m)
    → length (digits_onto (suc k) 16 false n bs) ≤ m
length_step k n m bs true e one more = omega (arith, ap length (digits_onto_by k n bs true e))
length_step k n m bs false e one more =
    omega (arith, ap length (digits_onto_by k n bs false e), more (grind (arith, nat_tests)))

-- a number below 16 ^ (j + 1) has at most j + 1 digits
length-digits_onto : (k j n : ℕ) (bs : List ℕ) → n < 16 ^ suc j
    → length (digits_onto k 16 false n bs) ≤ suc j + length bs
length-digits_onto zero j n bs h = omega arith
length-digits_onto (suc k) zero n bs h =
    length_step k n _ bs (eqb (n / 16) 0) refl (omega arith) (λ more. absurd (omega arith))
length-digits_onto (suc k) (suc j) n bs h =
    length_step k n _ bs (eqb (n / 16) 0) refl (omega arith)
    (λ _. omega
    (arith, length-digits_onto k j (n / 16) (digit_glyph false (n % 16) ∷ bs) (omega (arith, pow-suc 16 (suc j)))))

-- the digits of a character spell it, and there are one to five of them
pub hex_number-digits : (c : ℕ) → c ≤ 0x2ffff → hex_number_from 0 (digits 16 false c) ≡ Some c
unfolding digits hex_number_from
hex_number-digits c h = hex_number-digits_onto 64 c [] (omega arith)

pub length-digits-le : (c : ℕ) → c ≤ 0x2ffff → length (digits 16 false c) ≤ 5
unfolding digits
length-digits-le c h = omega (arith, length-digits_onto 64 4 c [] (omega arith))

pub digits-some : (c : ℕ) → c ≤ 0x2ffff → 1 ≤ length (digits 16 false c)
digits-some c h = omega (arith, (digits_is_IsNumeral 16 false (omega arith) (omega arith) c (omega arith)).0.0)
