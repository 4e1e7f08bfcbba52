-- The numbers of numerals.
use Rattle.std.proofs.Common.{◌≡◌, ℕ, ◌+◌, ◌-◌, ◌*◌, ◌^◌, ◌<◌, ◌≤◌, Bool, true, false, ◌&&◌, if◌then◌else◌, List, [], ◌∷◌, drop, length, get_or, Option, Some, None, MatchOption, refl, sym, ap, ◌∙◌, arith}
use Rattle.std.specs.Prelude.{nat_lt}
use Rattle.std.proofs.lemmas.List.{drop_more}
use Rattle.std.proofs.lemmas.Bool.Decides.{nat_tests}
use Rattle.sb_word.specs.Numerals.{is_numeral, number_of, number_from, numeral_value}

-- a number does not fall by more digits
number_grows : (n : ℕ) (ds : List ℕ) → n ≤ number_from n ds
number_grows n [] = omega arith
number_grows n (d ∷ ds) = omega (arith, number_grows (10 * n + (d - 48)) ds)

pub digit_too_large : (ds : List ℕ) (i d n limit : ℕ) → i < length ds → number_of ds ≡ number_from n (drop i ds)
    → limit ≤ 10 * n + (get_or ds i d - 48) → limit ≤ number_of ds
digit_too_large ds i d n limit within before more =
    let is : number_of ds ≡ number_from (10 * n + (get_or ds i d - 48)) (drop (i + 1) ds) =
    before ∙ ap (number_from n) (drop_more ds i d within) in
    omega (arith, more, is, number_grows (10 * n + (get_or ds i d - 48)) (drop (i + 1) ds))

-- the number of digits where that is small, if they are a numeral
abbrev if_numeral : List ℕ → Bool → Option ℕ
if_numeral bytes b = if b && nat_lt (number_of bytes) (2 ^ 64) then Some (number_of bytes) else None

-- a numeral has its number where that is small, and bytes that are no numeral have none
pub value_of_numeral : (bytes : List ℕ) (o : Option ℕ) → is_numeral bytes ≡ true
    → MatchOption o (2 ^ 64 ≤ number_of bytes) (λ n. (number_of bytes ≡ n) × (n < 2 ^ 64))
    → o ≡ numeral_value bytes
value_of_numeral bytes o is h = step o h ∙ sym (ap (if_numeral bytes) is)
  where
    small : (n : ℕ) (b : Bool) → nat_lt (number_of bytes) (2 ^ 64) ≡ b → number_of bytes ≡ n → n < 2 ^ 64
        → Some n ≡ (if b then Some (number_of bytes) else None)
    small n true test same below = sym (ap Some same)
    small n false test same below = absurd (grind (arith, nat_tests))

    large : (b : Bool) → nat_lt (number_of bytes) (2 ^ 64) ≡ b → 2 ^ 64 ≤ number_of bytes
        → None ≡ (if b then Some (number_of bytes) else None)
    large true test above = absurd (grind (arith, nat_tests))
    large false test above = refl

    step : (o : Option ℕ) → MatchOption o (2 ^ 64 ≤ number_of bytes) (λ n. (number_of bytes ≡ n) × (n < 2 ^ 64))
        → o ≡ if_numeral bytes true
    step None h = large (nat_lt (number_of bytes) (2 ^ 64)) refl h
    step (Some n) h = small n (nat_lt (number_of bytes) (2 ^ 64)) refl h.0 h.1

pub no_value : (bytes : List ℕ) → is_numeral bytes ≡ false → None ≡ numeral_value bytes
no_value bytes is = sym (ap (if_numeral bytes) is)
