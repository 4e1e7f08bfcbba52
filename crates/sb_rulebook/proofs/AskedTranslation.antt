-- The literal of a term that asks something of one constant's word is that of the membership in what it asks for.
use Rattle.std.proofs.Common.{◌≡◌, ℕ, ◌+◌, Bool, true, false, ◌&&◌, nat_le, if◌then◌else◌, List, [], ◌∷◌, length, Option, Some, None, refl, sym, ap, ◌∙◌, arith}
use Rattle.std.specs.Prelude.{option_map, option_and_then}
use Rattle.std.proofs.lemmas.Bool.Decides.{nat_tests}
use Rattle.sb_lang.specs.Regex.{Regex}
use Rattle.sb_lang.specs.Normal.{normal, word_regex}
use Rattle.sb_lit.specs.declared.clause.Lit.{Lit}
use Rattle.sb_meaning.specs.Terms.{Term, text, constant, word, apply, no_terms, with_term}
use Rattle.sb_meaning.specs.Terms as symbol
use Rattle.sb_script.specs.Brought.{asked, membership_of}
use Rattle.sb_script.specs.Pieces.{constant_piece, word_piece, word_of, single_pieces, ground_word}
use Rattle.sb_script.proofs.CallerLemmas.{IsAsking, a_membership, a_word_behind, a_word_in_front, asked_looks}
use Rattle.sb_rulebook.specs.Atoms.{Atom, in_atom}
use Rattle.sb_rulebook.specs.Parts.{together}
use Rattle.sb_rulebook.specs.Translation.{translation, positive, conjunction}

short_enough : (n : ℕ) → ((nat_le n 65535 && true) && nat_le (1 + (n + 0)) 1000000) ≡ nat_le n 65535
short_enough n = grind (arith, nat_tests)

-- all of one
of_one : (atoms : List Atom) (o : Option Lit) → option_and_then (conjunction atoms) (together (o ∷ [])) ≡ o
of_one atoms None = refl
of_one atoms (Some l) = refl

module _ (atoms : List Atom) (serial : ℕ) where
  abbrev of_regex : Option Regex → Option Lit
  of_regex o = option_and_then (λ r. positive atoms (in_atom (constant_piece serial ∷ []) r)) o

  -- with the word of a literal that is short, or is not
  by_length : (v : List ℕ) (b : Bool)
      → (elim (option_and_then word_of (if b then Some (word_piece v ∷ []) else None)) as (λ _. Option Lit) [
        | Some w ↦ of_regex (Some (word_regex w))
        | None ↦ option_and_then (λ r. option_and_then (λ ps. positive atoms (in_atom ps r)) (single_pieces (word v)))
            (option_map word_regex (ground_word (constant serial text)))
      ])
      ≡ of_regex (if b then Some (word_regex v) else None)
  by_length v true = refl
  by_length v false = refl

  by_length_in_front : (v : List ℕ) (b : Bool)
      → of_regex (option_map word_regex (option_and_then word_of (if b then Some (word_piece v ∷ []) else None)))
      ≡ of_regex (if b then Some (word_regex v) else None)
  by_length_in_front v true = refl
  by_length_in_front v false = refl

  in_a_word : (w : List ℕ) → of_regex (if nat_le (length w) 65535 then Some (word_regex w) else None)
      ≡ translation atoms (membership_of serial (apply symbol.str_to_re (with_term (word w) no_terms)))
  unfolding normal
  in_a_word w =
      ap (λ b. of_regex (if b then Some (word_regex w) else None)) (sym (short_enough (length w)))

  behind : (w : List ℕ)
      → translation atoms (apply symbol.core_equal (with_term (constant serial text) (with_term (word w) no_terms)))
      ≡ translation atoms (membership_of serial (apply symbol.str_to_re (with_term (word w) no_terms)))
  behind [] = of_one atoms _ ∙ in_a_word []
  behind (c ∷ w) = of_one atoms _ ∙ by_length (c ∷ w) (nat_le (length (c ∷ w)) 65535) ∙ in_a_word (c ∷ w)

  in_front : (w : List ℕ)
      → translation atoms (apply symbol.core_equal (with_term (word w) (with_term (constant serial text) no_terms)))
      ≡ translation atoms (membership_of serial (apply symbol.str_to_re (with_term (word w) no_terms)))
  in_front [] = of_one atoms _ ∙ in_a_word []
  in_front (c ∷ w) = of_one atoms _ ∙ by_length_in_front (c ∷ w) (nat_le (length (c ∷ w)) 65535) ∙ in_a_word (c ∷ w)

pub asked_translation : (t : Term) (serial : ℕ) (R : Term) → asked t ≡ Some (serial, R) → (atoms : List Atom)
    → translation atoms t ≡ translation atoms (membership_of serial R)
asked_translation t serial R h atoms = step (asked_looks t serial R h)
  where
    step : IsAsking serial t R → translation atoms t ≡ translation atoms (membership_of serial R)
    step (a_membership is) = ap (translation atoms) is
    step (a_word_behind w is S) =
        ap (translation atoms) is
        ∙ behind atoms serial w
        ∙ ap (λ u. translation atoms (membership_of serial u)) (sym S)
    step (a_word_in_front w is S) =
        ap (translation atoms) is
        ∙ in_front atoms serial w
        ∙ ap (λ u. translation atoms (membership_of serial u)) (sym S)
