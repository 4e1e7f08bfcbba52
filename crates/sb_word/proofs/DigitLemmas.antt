-- Hexadecimal digits: the value of one, one more digit of a number, and the digits of one.
use Rattle.std.proofs.Common.{◌≡◌, ℕ, ◌+◌, ◌*◌, ◌<◌, ◌≤◌, Bool, true, false, cond, ltb, List, [], ◌∷◌, refl, sym, ap, ◌∙◌, Some, None, Option, arith}
use Rattle.std.specs.Fmt.{digit_glyph}
use Rattle.std.proofs.lemmas.Bool.Decides.{nat_tests}
use Rattle.sb_word.specs.Literals.{hex_value, hex_number_from}

-- a decimal digit, and a small letter, have their values
pub hex_value-decimal : (d : ℕ) → d < 10 → hex_value (48 + d) ≡ Some d
unfolding hex_value
hex_value-decimal d h = grind (arith, nat_tests)

pub hex_value-letter : (d : ℕ) → 10 ≤ d → d < 16 → hex_value (87 + d) ≡ Some d
unfolding hex_value
hex_value-letter d l h = grind (arith, nat_tests)

-- the glyph of a digit has its value
pub hex_value-glyph : (d : ℕ) → d < 16 → hex_value (digit_glyph false d) ≡ Some d
hex_value-glyph d h = by (ltb d 10) refl
  where
    by : (t : Bool) → ltb d 10 ≡ t → hex_value (cond t (48 + d) (87 + d)) ≡ Some d
    by true e = hex_value-decimal d (grind (arith, nat_tests))
    by false e = hex_value-letter d (grind (arith, nat_tests)) h

-- a digit behind what came before it
pub hex_number-digit : (n b d : ℕ) (bs : List ℕ) → hex_value b ≡ Some d
    → hex_number_from n (b ∷ bs) ≡ hex_number_from (16 * n + d) bs
unfolding hex_number_from
hex_number-digit n b d bs h =
    ap (λ o. elim o as (λ _. Option ℕ) [ None ↦ None | Some v ↦ hex_number_from (16 * n + v) bs ]) h

-- the glyph of a digit goes on with the digit
pub hex_number-glyph : (n d m : ℕ) (bs : List ℕ) → d < 16 → 16 * n + d ≡ m
    → hex_number_from n (digit_glyph false d ∷ bs) ≡ hex_number_from m bs
hex_number-glyph n d m bs h e =
    hex_number-digit n (digit_glyph false d) d bs (hex_value-glyph d h) ∙ ap (λ v. hex_number_from v bs) e

-- each byte is a hexadecimal digit
abbrev pub AreHex : List ℕ → Type 0
AreHex [] = Unit {0}
AreHex (b ∷ bs) = (hex_value b ≡ None → ⊥) × AreHex bs

hex_step : (n b c : ℕ) (bs : List ℕ) (o : Option ℕ) → hex_value b ≡ o → hex_number_from n (b ∷ bs) ≡ Some c
    → ((m : ℕ) → hex_number_from m bs ≡ Some c → AreHex bs) → AreHex (b ∷ bs)
unfolding hex_number_from
hex_step n b c bs None is e more = let none : None ≡ Some c =
    sym (ap (λ o. elim o as (λ _. Option ℕ) [ None ↦ None | Some v ↦ hex_number_from (16 * n + v) bs ]) is) ∙ e in cc
hex_step n b c bs (Some d) is e more =
    let some : hex_number_from (16 * n + d) bs ≡ Some c =
    sym (ap (λ o. elim o as (λ _. Option ℕ) [ None ↦ None | Some v ↦ hex_number_from (16 * n + v) bs ]) is) ∙ e in
    (λ none. let both : None ≡ Some d = sym none ∙ is in cc, more (16 * n + d) some)

-- what spells a number has only hexadecimal digits
pub are_hex : (n c : ℕ) (bs : List ℕ) → hex_number_from n bs ≡ Some c → AreHex bs
are_hex n c [] e = tt
are_hex n c (b ∷ bs) e =
    hex_step n b c bs (hex_value b) refl e (λ m h. are_hex m c bs h)
