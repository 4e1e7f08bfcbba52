-- Numbers that are read digit by digit, as far as 64 bits hold them.
use Rattle.std.proofs.Common.{◌≡◌, ℕ, ◌+◌, ◌-◌, ◌*◌, ◌^◌, ◌≤◌, ◌<◌, Bool, true, false, cond, ◌&&◌, nat_lt, nat_le, [], ◌∷◌, Option, Some, None, option_and_then, refl, ap, ◌∙◌, arith}
use Rattle.std.proofs.lemmas.Bool.Decides.{nat_tests}
use Rattle.sb_word.specs.Literals.{hex_value, hex_number_from}
use Rattle.sb_rulebook.specs.Lines.{Field}
use Rattle.sb_rulebook.specs.Reading.{decimal_from}
use Rattle.sb_proof.specs.Spelled.{decimal_value, if_small, small}

-- how digits of a base are read, each behind what came before it
pub record ReadsDigits (base : ℕ) (value : ℕ → Option ℕ) (read : ℕ → Field → Option ℕ) : Type 0 where
  pub ends : (n : ℕ) → read n [] ≡ Some n
  pub goes_on : (n b : ℕ) (bs : Field) → read n (b ∷ bs) ≡ option_and_then (λ d. read (base * n + d) bs) (value b)
  pub grows : (n : ℕ) → n ≤ base * n

pub decimal_digits : ReadsDigits 10 decimal_value decimal_from
decimal_digits = record {
  ends = λ n. refl;
  goes_on = λ n b bs. by n b bs (nat_le 48 b && nat_le b 57);
  grows = λ n. omega arith;
}
  where
    by : (n b : ℕ) (bs : Field) (t : Bool) → cond t (decimal_from (10 * n + (b - 48)) bs) None
        ≡ option_and_then (λ d. decimal_from (10 * n + d) bs) (cond t (Some (b - 48)) None)
    by n b bs true = refl
    by n b bs false = refl

pub hexadecimal_digits : ReadsDigits 16 hex_value hex_number_from
unfolding hex_number_from
hexadecimal_digits = record {
  ends = λ n. refl;
  goes_on = λ n b bs. by n bs (hex_value b);
  grows = λ n. omega arith;
}
  where
    by : (n : ℕ) (bs : Field) (o : Option ℕ) →
        elim o as (λ _. Option ℕ) [ None ↦ None | Some d ↦ hex_number_from (16 * n + d) bs ]
        ≡ option_and_then (λ d. hex_number_from (16 * n + d) bs) o
    by n bs None = refl
    by n bs (Some d) = refl

large-none : (n : ℕ) → nat_lt n (2 ^ 64) ≡ false → if_small n ≡ None
large-none n e = ap (λ t. cond t (Some n) None) e

pub small-some : (n : ℕ) → n < 2 ^ 64 → if_small n ≡ Some n
small-some n h = let e : nat_lt n (2 ^ 64) ≡ true = grind (arith, nat_tests) in ap (λ t. cond t (Some n) None) e

small-is : (n m : ℕ) → if_small n ≡ Some m → n ≡ m
small-is n m = by (nat_lt n (2 ^ 64))
  where
    by : (t : Bool) → cond t (Some n) None ≡ Some m → n ≡ m
    by true e = cc
    by false e = cc

pub small-fits : (n m : ℕ) → if_small n ≡ Some m → m < 2 ^ 64
small-fits n m = by (nat_lt n (2 ^ 64)) refl
  where
    by : (t : Bool) → nat_lt n (2 ^ 64) ≡ t → cond t (Some n) None ≡ Some m → m < 2 ^ 64
    by true is e = let same : n ≡ m = Prim.cc (e) in grind (arith, nat_tests)
    by false is e = cc

small-none : (n : ℕ) → if_small n ≡ None → nat_lt n (2 ^ 64) ≡ false
small-none n = by (nat_lt n (2 ^ 64)) refl
  where
    by : (t : Bool) → nat_lt n (2 ^ 64) ≡ t → cond t (Some n) None ≡ None → nat_lt n (2 ^ 64) ≡ false
    by true is e = cc
    by false is e = is

larger : (m n d : ℕ) → n ≤ m → nat_lt n (2 ^ 64) ≡ false → nat_lt (m + d) (2 ^ 64) ≡ false
larger m n d h e = grind (arith, nat_tests)

module _ (base : ℕ) (value : ℕ → Option ℕ) (read : ℕ → Field → Option ℕ) (law : ReadsDigits base value read) where
  -- digits behind a number that is too large leave it so
  stays_large : (n : ℕ) (bs : Field) → nat_lt n (2 ^ 64) ≡ false → small (read n bs) ≡ None
  stays_large n [] e = ap small (law.ends n) ∙ large-none n e
  stays_large n (b ∷ bs) e =
      ap small (law.goes_on n b bs)
      ∙ by (value b) (λ d. stays_large (base * n + d) bs (larger (base * n) n d (law.grows n) e))
    where
      by : (o : Option ℕ) → ((d : ℕ) → small (read (base * n + d) bs) ≡ None)
          → small (option_and_then (λ d. read (base * n + d) bs) o) ≡ None
      by None rest = refl
      by (Some d) rest = rest d

  -- a byte that is no digit
  pub no_digit : (n b : ℕ) (bs : Field) → value b ≡ None → small (read n (b ∷ bs)) ≡ None
  no_digit n b bs e = ap small (law.goes_on n b bs ∙ ap (option_and_then (λ d. read (base * n + d) bs)) e)

  -- a digit that makes the number too large
  pub too_large : (n b d : ℕ) (bs : Field) → value b ≡ Some d → if_small (base * n + d) ≡ None
      → small (read n (b ∷ bs)) ≡ None
  too_large n b d bs e large =
      ap small (law.goes_on n b bs ∙ ap (option_and_then (λ d. read (base * n + d) bs)) e)
      ∙ stays_large (base * n + d) bs (small-none (base * n + d) large)

  -- a digit behind which the others follow
  pub one_more : (n b d m : ℕ) (bs : Field) → value b ≡ Some d → if_small (base * n + d) ≡ Some m
      → read n (b ∷ bs) ≡ read m bs
  one_more n b d m bs e is =
      law.goes_on n b bs ∙ ap (option_and_then (λ d. read (base * n + d) bs)) e
      ∙ ap (λ k. read k bs) (small-is (base * n + d) m is)

  pub at_end : (n : ℕ) → n < 2 ^ 64 → small (read n []) ≡ Some n
  at_end n h = ap small (law.ends n) ∙ small-some n h

-- A number is read where it is small, and the field is its text.
