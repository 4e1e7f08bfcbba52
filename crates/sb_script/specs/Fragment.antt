-- The checks that are decided: the fragment, rule by rule.
use Rattle.std.specs.Prelude.{ℤ, pos, ◌-ℤ◌, int_le, Bool, true, false, not, ◌&&◌, ◌||◌, List, [], ◌∷◌, ◌++◌, Option, Some, None, is_some}
use Rattle.std.specs.List.{list_all, flat_map}
use Rattle.sb_meaning.specs.Terms.{Symbol, boolean, integer, text, reglan, Sort, Term, Terms, constant, apply, no_terms, with_term, terms_in}
use Rattle.sb_meaning.specs.Terms as symbol
use Rattle.sb_meaning.specs.Sorts.{sort_of}
use Rattle.sb_meaning.specs.Truth.{is_chain, are_pairs}
use Rattle.sb_script.specs.Brought.{a_check_of, proofs, is_brought}
use Rattle.sb_script.specs.Pieces.{single_pieces, ground_word, whole_word}
use Rattle.sb_script.specs.Sizes.{is_regular}
use Rattle.sb_script.specs.Sums.{Sum, Variable, int_constant, length_of, subtracted, is_small, is_within, sum_of}
use Rattle.sb_script.specs.Bounds.{Bound, lower_in, upper_in}
use Rattle.sb_script.specs.LiteralBounds.{bounds_of}
use Rattle.sb_script.specs.State.{State, Assertion, asserted, a_mark, live, terms_in as asserted_terms}

-- One assertion.

-- String equality: one side has no constant, and in the other one each constant stands once at most.
abbrev pub is_word_pair : Term → Term → Bool
is_word_pair a b = elim (ground_word b) [
  | Some w ↦ is_some (single_pieces a)
  | None ↦ is_some (ground_word a) && is_some (single_pieces b)
]

abbrev pub is_small_difference : Option Sum → Option Sum → Bool
is_small_difference (Some s) (Some t) = is_small (subtracted s t) && is_small (subtracted t s)
is_small_difference _ _ = false

-- Linear arithmetic: both sides are linear, and so small, and their difference too, that limits on sizes allow it.
abbrev pub is_linear_pair : Term → Term → Bool
is_linear_pair a b = is_small_difference (sum_of a) (sum_of b)

-- Membership: a concatenation of words and of constants, each once at most, in a regular expression without constants.
abbrev pub is_membership_pair : List Term → Bool
is_membership_pair (t ∷ R ∷ []) = is_some (single_pieces t) && is_regular R
is_membership_pair _ = false

-- Affixes: of the part and the whole one has no constant, and in the other one each constant stands once at most; the
-- whole is of 1,000 characters at most where it is the one without.
abbrev pub is_affix_pair : Term → Term → Bool
is_affix_pair part whole = elim (ground_word part) [
  | Some w ↦ is_some (single_pieces whole)
  | None ↦ is_some (whole_word whole) && is_some (single_pieces part)
]

-- of two arguments
abbrev pub of_two : (Term → Term → Bool) → List Term → Bool
of_two test (s ∷ t ∷ []) = test s t
of_two test _ = false

abbrev pub sort_of_first : List Term → Sort
sort_of_first [] = boolean
sort_of_first (t ∷ ts) = sort_of t

-- terms that are compared, by their sort; of Bool terms each fits
abbrev pub are_comparable : ((Term → Term → Bool) → List Term → Bool) → List Term → Bool → Bool
are_comparable each_two ts each_fits = elim (sort_of_first ts) [
  | boolean ↦ each_fits
  | integer ↦ each_two is_linear_pair ts
  | text ↦ each_two is_word_pair ts
  | reglan ↦ false
]

-- a Bool term that is a symbol with arguments, of which each fits or one does not
abbrev pub fits_applied : Symbol → List Term → Bool → Bool
fits_applied symbol.core_true ts each_fits = each_fits
fits_applied symbol.core_false ts each_fits = each_fits
fits_applied symbol.core_not ts each_fits = each_fits
fits_applied symbol.core_and ts each_fits = each_fits
fits_applied symbol.core_or ts each_fits = each_fits
fits_applied symbol.core_implies ts each_fits = each_fits
fits_applied symbol.core_xor ts each_fits = each_fits
fits_applied symbol.core_ite ts each_fits = each_fits
fits_applied symbol.core_equal ts each_fits = are_comparable is_chain ts each_fits
fits_applied symbol.core_distinct ts each_fits = are_comparable are_pairs ts each_fits
fits_applied symbol.at_most ts each_fits = is_chain is_linear_pair ts
fits_applied symbol.less ts each_fits = is_chain is_linear_pair ts
fits_applied symbol.at_least ts each_fits = is_chain is_linear_pair ts
fits_applied symbol.greater ts each_fits = is_chain is_linear_pair ts
fits_applied symbol.str_in_re ts each_fits = is_membership_pair ts
fits_applied symbol.str_prefixof ts each_fits = of_two is_affix_pair ts
fits_applied symbol.str_suffixof ts each_fits = of_two is_affix_pair ts
fits_applied symbol.str_contains ts each_fits = of_two (λ whole part. is_affix_pair part whole) ts
fits_applied _ ts each_fits = false

-- Boolean structure over memberships, String equalities, affixes and linear arithmetic, within the limits on sizes
abbrev mutual
  pub fits : Term → Bool
  fits (constant serial boolean) = true
  fits (apply s terms) = fits_applied s (terms_in terms) (each_fits terms)
  fits _ = false

  pub each_fits : Terms → Bool
  each_fits no_terms = true
  each_fits (with_term term terms) = fits term && each_fits terms

-- All assertions together.

-- the lengths of the String constants in a term
abbrev mutual
  pub lengths_in : Term → List Variable
  lengths_in (constant serial text) = length_of serial ∷ []
  lengths_in (apply s terms) = lengths_in_each terms
  lengths_in _ = []

  pub lengths_in_each : Terms → List Variable
  lengths_in_each no_terms = []
  lengths_in_each (with_term term terms) = lengths_in term ++ lengths_in_each terms

-- the Int constants that occur in a term, and the lengths of String constants; in a concatenation there are none
abbrev mutual
  pub variables_in : Term → List Variable
  variables_in (constant serial integer) = int_constant serial ∷ []
  variables_in (apply symbol.str_concat terms) = []
  variables_in (apply symbol.str_len terms) = lengths_in_each terms
  variables_in (apply s terms) = variables_in_each terms
  variables_in _ = []

  pub variables_in_each : Terms → List Variable
  variables_in_each no_terms = []
  variables_in_each (with_term term terms) = variables_in term ++ variables_in_each terms

-- Bound limits: so far from 0 at most, and so far apart.
abbrev pub are_near : Option ℤ → Option ℤ → Bool
are_near (Some low) (Some high) =
    is_within (pos 1000000) low && (is_within (pos 1000000) high && int_le (high -ℤ low) (pos 4096))
are_near _ _ = false

-- literal bounds: the best ones that the assertions give
abbrev pub is_bounded : List Bound → Variable → Bool
is_bounded bounds x = are_near (lower_in bounds x) (upper_in bounds x)

abbrev pub are_bounded : List Term → Bool
are_bounded ts = list_all (is_bounded (flat_map bounds_of ts)) (flat_map variables_in ts)

abbrev pub is_unmarked : Assertion → Bool
is_unmarked (asserted t) = true
is_unmarked a_mark = false

-- The assertions are within the fragment: none is a mark, each fits, and all variables have bounds.
abbrev pub are_in_fragment : List Assertion → Bool
are_in_fragment assertions =
    list_all is_unmarked assertions
    && (list_all fits (asserted_terms assertions) && are_bounded (asserted_terms assertions))

-- What is brought of it so far.

abbrev pub is_inside : Assertion → Bool
is_inside (asserted term) = is_brought (a_check_of term)
is_inside a_mark = false

abbrev pub are_inside : List Assertion → Bool
are_inside assertions = list_all is_inside assertions

-- The assertion is decided, as far as it alone says: it is of what is brought, and within the limits on sizes.
abbrev pub is_decided : Assertion → Bool
is_decided (asserted term) = is_inside (asserted term) && fits term
is_decided a_mark = false

-- The check is decided. The limits on sizes count once proofs are written; what is brought keeps all other rules.
abbrev pub in_fragment : State → Bool
in_fragment s = (not (is_brought proofs) || are_in_fragment (live s)) && are_inside (live s)
