-- The first number that is no character, by `position`.
use Rattle.std.proofs.Common.{◌≡◌, ℕ, suc, ◌+◌, ◌<◌, Bool, true, false, not, cond, nat_lt, List, [], ◌∷◌, length, refl, sym, subst, Some, None, inl, inr, ◌⊎◌, Option, MatchOption, arith}
use Rattle.std.specs.List.{position, position_or_len}
use Rattle.std.proofs.lemmas.Bool.Decides.{nat_tests}
use Rattle.std.proofs.lemmas.Bool.{and_from}
use Rattle.sb_word.specs.Words.{is_character, IsWord, IsFirstOutside}

-- the number is no character
abbrev pub is_outside : ℕ → Bool
is_outside c = nat_lt 0x2ffff c

is_character-inside : (c : ℕ) → is_outside c ≡ false → is_character c ≡ true
is_character-inside c h = grind (arith, nat_tests)

is_character-outside : (c : ℕ) → is_outside c ≡ true → is_character c ≡ false
is_character-outside c h = grind (arith, nat_tests)

-- the numbers are a word and no place passes, or the first that passes is the first that is no character
abbrev Searched : List ℕ → ℕ → Type 0
Searched codes place =
    ((place ≡ length codes) × IsWord codes) ⊎ ((place < length codes) × IsFirstOutside codes place)

searched_step : (c : ℕ) (codes : List ℕ) (t : Bool) → is_outside c ≡ t
    → Searched codes (position_or_len is_outside codes)
    → Searched (c ∷ codes) (cond (not t) (1 + position_or_len is_outside codes) 0)
searched_step c codes true is h = inr (
  omega arith,
  record {
    code = c;
    there = refl;
    outside = is_character-outside c is;
    before = refl;
  },
)
searched_step c codes false is (inl h) =
    inl (omega (arith, h.0), and_from _ _ (is_character-inside c is) h.1)
searched_step c codes false is (inr h) =
    let next : suc (position_or_len is_outside codes) ≡ 1 + position_or_len is_outside codes = omega arith in
    subst (λ place. Searched (c ∷ codes) place) next (inr (
      omega (arith, h.0),
      record {
        code = h.1.code;
        there = h.1.there;
        outside = h.1.outside;
        before = and_from _ _ (is_character-inside c is) h.1.before;
      },
    ))

searched : (codes : List ℕ) → Searched codes (position_or_len is_outside codes)
searched [] = inl (refl, refl)
searched (c ∷ codes) = searched_step c codes (is_outside c) refl (searched codes)

by_test : (codes : List ℕ) (place : ℕ) (t : Bool) → nat_lt place (length codes) ≡ t → Searched codes place
    → MatchOption (cond t (Some place) None) (IsWord codes) (λ at. IsFirstOutside codes at)
by_test codes place true is (inl h) = absurd (grind (arith, nat_tests))
by_test codes place true is (inr h) = h.1
by_test codes place false is (inl h) = h.1
by_test codes place false is (inr h) = absurd (grind (arith, nat_tests))

-- what `position` gives of the numbers
pub position_outside : (codes : List ℕ) (r : Option ℕ) → r ≡ position is_outside codes
    → MatchOption r (IsWord codes) (λ place. IsFirstOutside codes place)
position_outside codes r e =
    subst (λ o. MatchOption o (IsWord codes) (λ place. IsFirstOutside codes place)) (sym e)
    (by_test codes _ _ refl (searched codes))
