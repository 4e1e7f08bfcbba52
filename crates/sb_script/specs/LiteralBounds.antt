-- The literal bounds of assertions: two neighbours under `=`, `<=`, `<`, `>=` or `>`, one an Int constant or the
-- length of a String constant, the other a numeral or its negation. They stand in an assertion, or in a conjunct of
-- one.
use Rattle.std.specs.Prelude.{ℤ, pos, ◌+ℤ◌, neg_ℤ, List, [], ◌∷◌, ◌++◌, Option, Some, None}
use Rattle.std.specs.List.{flat_map}
use Rattle.sb_meaning.specs.Terms.{integer, text, Term, Terms, constant, numeral, apply, no_terms, with_term, terms_in}
use Rattle.sb_meaning.specs.Terms as symbol
use Rattle.sb_meaning.specs.Truth.{neighbours}
use Rattle.sb_script.specs.Sums.{Variable, int_constant, length_of}
use Rattle.sb_script.specs.Bounds.{Bound, at_least, at_most}

abbrev pub number_in : Term → Option ℤ
number_in (numeral n) = Some (pos n)
number_in (apply symbol.minus (with_term (numeral n) no_terms)) = Some (neg_ℤ (pos n))
number_in _ = None

abbrev pub variable_in : Term → Option Variable
variable_in (constant serial integer) = Some (int_constant serial)
variable_in (apply symbol.str_len (with_term (constant serial text) no_terms)) = Some (length_of serial)
variable_in _ = None

abbrev pub bound_by : (Variable → ℤ → Bound) → Option Variable → Option ℤ → List Bound
bound_by make (Some x) (Some k) = make x k ∷ []
bound_by make _ _ = []

abbrev pub moved : ℤ → Option ℤ → Option ℤ
moved d None = None
moved d (Some k) = Some (k +ℤ d)

-- the first is at most the second and d
abbrev pub bounds_of_pair : ℤ → Term → Term → List Bound
bounds_of_pair d a b =
    bound_by at_most (variable_in a) (moved d (number_in b))
    ++ bound_by at_least (variable_in b) (moved (neg_ℤ d) (number_in a))

abbrev pub of_neighbours : (Term → Term → List Bound) → List Term → List Bound
of_neighbours bounds ts = flat_map (λ p. bounds p.0 p.1) (neighbours ts)

abbrev mutual
  pub bounds_of : Term → List Bound
  bounds_of (apply symbol.core_and terms) = bounds_of_each terms
  bounds_of (apply symbol.core_equal terms) =
      of_neighbours (λ a b. bounds_of_pair (pos 0) a b ++ bounds_of_pair (pos 0) b a) (terms_in terms)
  bounds_of (apply symbol.at_most terms) = of_neighbours (bounds_of_pair (pos 0)) (terms_in terms)
  bounds_of (apply symbol.less terms) = of_neighbours (bounds_of_pair (neg_ℤ (pos 1))) (terms_in terms)
  bounds_of (apply symbol.at_least terms) = of_neighbours (λ a b. bounds_of_pair (pos 0) b a) (terms_in terms)
  bounds_of (apply symbol.greater terms) = of_neighbours (λ a b. bounds_of_pair (neg_ℤ (pos 1)) b a) (terms_in terms)
  bounds_of _ = []

  pub bounds_of_each : Terms → List Bound
  bounds_of_each no_terms = []
  bounds_of_each (with_term term terms) = bounds_of term ++ bounds_of_each terms
