-- What a term asks of one constant's word: the term is the membership in what it asks for, or an equality with a literal;
-- and it means what that membership means, and fits where it fits.
use Rattle.std.proofs.Common.{◌≡◌, ℕ, ◌+◌, Bool, true, false, ◌&&◌, ◌==◌, nat_le, if◌then◌else◌, List, [], ◌∷◌, length, Option, Some, None, refl, sym, ap, ap₂, ◌∙◌, arith}
use Rattle.std.specs.Prelude.{◌||◌, is_some, option_and_then}
use Rattle.std.proofs.lemmas.Bool.{false≢true}
use Rattle.std.proofs.lemmas.Bool.Decides.{nat_tests}
use Rattle.sb_lang.specs.Membership.{in_re, is_word}
use Rattle.sb_meaning.specs.Terms.{Sort, boolean, integer, text, reglan, Term, Terms, constant, word, numeral, apply, parameter, no_terms, with_term}
use Rattle.sb_meaning.specs.Terms as symbol
use Rattle.sb_meaning.specs.Values.{Value, Valuation, Text, Int, Truth, value_in}
use Rattle.sb_meaning.specs.Truth.{means_word, meaning_of_value, holds, all_true, truth_in, applied}
use Rattle.sb_script.specs.Brought.{asked, membership_of, is_membership, is_regex}
use Rattle.sb_script.specs.Fragment.{fits}
use Rattle.sb_script.specs.Pieces.{word_piece, word_of, single_pieces, ground_word}
use Rattle.sb_script.specs.Sizes.{is_regular}
use Rattle.sb_script.specs.Models.{occurs}

abbrev pub of_word : List ℕ → Term
of_word w = apply symbol.str_to_re (with_term (word w) no_terms)

abbrev pub equality : Term → Term → Term
equality s t = apply symbol.core_equal (with_term s (with_term t no_terms))

-- what such a term looks like
pub data IsAsking (serial : ℕ) (t R : Term) : Type 0 where
  a_membership : t ≡ membership_of serial R → IsAsking serial t R
  a_word_behind : (w : List ℕ) → t ≡ equality (constant serial text) (word w) → R ≡ of_word w → IsAsking serial t R
  a_word_in_front : (w : List ℕ) → t ≡ equality (word w) (constant serial text) → R ≡ of_word w → IsAsking serial t R

pub asked_looks : (t : Term) (serial : ℕ) (R : Term) → asked t ≡ Some (serial, R) → IsAsking serial t R
asked_looks (apply symbol.str_in_re (with_term (constant n text) (with_term S no_terms))) serial R h =
    let same : (n, S) ≡ (serial, R) = cc in
    a_membership (ap (λ (p : ℕ × Term). membership_of p.0 p.1) same)
asked_looks (apply symbol.core_equal (with_term (constant n text) (with_term (word w) no_terms))) serial R h =
    let same : (n, of_word w) ≡ (serial, R) = cc in
    a_word_behind w (ap (λ (p : ℕ × Term). equality (constant p.0 text) (word w)) same)
    (sym (ap (λ (p : ℕ × Term). p.1) same))
asked_looks (apply symbol.core_equal (with_term (word w) (with_term (constant n text) no_terms))) serial R h =
    let same : (n, of_word w) ≡ (serial, R) = cc in
    a_word_in_front w (ap (λ (p : ℕ × Term). equality (word w) (constant p.0 text)) same)
    (sym (ap (λ (p : ℕ × Term). p.1) same))
asked_looks _ serial R h = absurd (Prim.cc (h))

-- a decided term asks for a regular expression over literals
pub membership_asks : {C : Type 0} (t : Term) → is_membership t ≡ true
    → ((serial : ℕ) (R : Term) → asked t ≡ Some (serial, R) → is_regex R ≡ true → C) → C
membership_asks {C} t h f = step (asked t) refl h
  where
    step : (o : Option (ℕ × Term)) → asked t ≡ o → elim o [ Some p ↦ is_regex p.1 | None ↦ false ] ≡ true → C
    step (Some p) is k = f p.0 p.1 is k
    step None is k = absurd (false≢true k)

-- The meaning.

same_turned : (a b : ℕ) → (a == b) ≡ (b == a)
same_turned a b = grind (arith, nat_tests)

is_word_turned : (v w : List ℕ) → is_word v w ≡ is_word w v
is_word_turned [] [] = refl
is_word_turned [] (c ∷ w) = refl
is_word_turned (a ∷ v) [] = refl
is_word_turned (a ∷ v) (c ∷ w) = ap₂ ◌&&◌ (same_turned a c) (is_word_turned v w)

and_true_twice : (b : Bool) → (b && true && true) ≡ (b && true)
and_true_twice true = refl
and_true_twice false = refl

word_behind : (w : List ℕ) (value : Value)
    → all_true (truth_in (applied symbol.core_equal (meaning_of_value value ∷ means_word w ∷ [])))
    ≡ all_true (truth_in (applied symbol.str_in_re
    (meaning_of_value value ∷ applied symbol.str_to_re (means_word w ∷ []) ∷ [])))
unfolding in_re
word_behind w (Text u) = and_true_twice (is_word u w) ∙ ap (λ b. b && true) (is_word_turned u w)
word_behind w (Int n) = refl
word_behind w (Truth b) = refl

word_in_front : (w : List ℕ) (value : Value)
    → all_true (truth_in (applied symbol.core_equal (means_word w ∷ meaning_of_value value ∷ [])))
    ≡ all_true (truth_in (applied symbol.str_in_re
    (meaning_of_value value ∷ applied symbol.str_to_re (means_word w ∷ []) ∷ [])))
unfolding in_re
word_in_front w (Text u) = and_true_twice (is_word w u)
word_in_front w (Int n) = refl
word_in_front w (Truth b) = refl

pub asked_holds : (t : Term) (serial : ℕ) (R : Term) → asked t ≡ Some (serial, R)
    → (v : Valuation) → holds t v ≡ holds (membership_of serial R) v
asked_holds t serial R h v = step (asked_looks t serial R h)
  where
    step : IsAsking serial t R → holds t v ≡ holds (membership_of serial R) v
    step (a_membership is) = ap (λ u. holds u v) is
    step (a_word_behind w is S) =
        ap (λ u. holds u v) is
        ∙ word_behind w (value_in v serial text)
        ∙ ap (λ u. holds (membership_of serial u) v) (sym S)
    step (a_word_in_front w is S) =
        ap (λ u. holds u v) is
        ∙ word_in_front w (value_in v serial text)
        ∙ ap (λ u. holds (membership_of serial u) v) (sym S)

-- The fragment.

short_enough : (n : ℕ) → nat_le n 65535 ≡ ((nat_le n 65535 && true) && nat_le (1 + (n + 0)) 1000000)
short_enough n = grind (arith, nat_tests)

true_behind : (b : Bool) → (b && true) ≡ b
true_behind true = refl
true_behind false = refl

-- with the word of a literal that is short, or is not
by_length : (serial : ℕ) (v : List ℕ) (b : Bool)
    → ((elim (option_and_then word_of (if b then Some (word_piece v ∷ []) else None)) as (λ _. Bool) [
      | Some w ↦ is_some (single_pieces (constant serial text))
      | None ↦ is_some (ground_word (constant serial text)) && is_some (single_pieces (word v))
    ]) && true) ≡ b
by_length serial v true = refl
by_length serial v false = refl

by_length_in_front : (v : List ℕ) (b : Bool)
    → ((is_some (option_and_then word_of (if b then Some (word_piece v ∷ []) else None)) && true) && true) ≡ b
by_length_in_front v true = refl
by_length_in_front v false = refl

fits_behind : (serial : ℕ) (w : List ℕ)
    → fits (equality (constant serial text) (word w)) ≡ fits (membership_of serial (of_word w))
fits_behind serial [] = refl
fits_behind serial (c ∷ w) =
    by_length serial (c ∷ w) (nat_le (length (c ∷ w)) 65535) ∙ short_enough (length (c ∷ w))

fits_in_front : (serial : ℕ) (w : List ℕ)
    → fits (equality (word w) (constant serial text)) ≡ fits (membership_of serial (of_word w))
fits_in_front serial [] = refl
fits_in_front serial (c ∷ w) =
    by_length_in_front (c ∷ w) (nat_le (length (c ∷ w)) 65535) ∙ short_enough (length (c ∷ w))

pub asked_fits : (t : Term) (serial : ℕ) (R : Term) → asked t ≡ Some (serial, R)
    → fits t ≡ fits (membership_of serial R)
asked_fits t serial R h = step (asked_looks t serial R h)
  where
    step : IsAsking serial t R → fits t ≡ fits (membership_of serial R)
    step (a_membership is) = ap fits is
    step (a_word_behind w is S) =
        ap fits is ∙ fits_behind serial w ∙ ap (λ u. fits (membership_of serial u)) (sym S)
    step (a_word_in_front w is S) =
        ap fits is ∙ fits_in_front serial w ∙ ap (λ u. fits (membership_of serial u)) (sym S)

-- a term that fits asks for a regular expression within the limits
pub asked_regular : (t : Term) (serial : ℕ) (R : Term) → asked t ≡ Some (serial, R) → fits t ≡ is_regular R
asked_regular t serial R h = asked_fits t serial R h

-- The constant alone stands in it.

pub asked_occurs : (t : Term) (serial : ℕ) (R : Term) → asked t ≡ Some (serial, R) → (n : ℕ)
    → occurs n t ≡ occurs n (membership_of serial R)
asked_occurs t serial R h n = step (asked_looks t serial R h)
  where
    step : IsAsking serial t R → occurs n t ≡ occurs n (membership_of serial R)
    step (a_membership is) = ap (occurs n) is
    step (a_word_behind w is S) = ap (occurs n) is ∙ ap (λ u. occurs n (membership_of serial u)) (sym S)
    step (a_word_in_front w is S) =
        ap (occurs n) is ∙ turned (n == serial) ∙ ap (λ u. occurs n (membership_of serial u)) (sym S)
      where
        turned : (b : Bool) → (false || (b || false)) ≡ (b || (false || false || false))
        turned true = refl
        turned false = refl
