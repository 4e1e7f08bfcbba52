-- Words and truths by serial as the values of String and Bool constants.
use Rattle.std.specs.Prelude.{◌≡◌, ℕ, Bool, false, List, [], slice_get, unwrap_or}
use Rattle.sb_meaning.specs.Terms.{boolean, text, Term, Terms, constant, apply, no_terms, with_term}
use Rattle.sb_meaning.specs.Values.{Valuation, Text, Truth, value_in}

-- Of the constants in a term each String constant has the word at its serial, the empty word past the last one, and each
-- Bool constant the truth at its serial, and past the last one it is false.
abbrev mutual
  pub GivesValues : List (List ℕ) → List Bool → Valuation → Term → Type 0
  GivesValues ws bs v (constant serial text) = value_in v serial text ≡ Text (unwrap_or (slice_get ws serial) [])
  GivesValues ws bs v (constant serial boolean) =
      value_in v serial boolean ≡ Truth (unwrap_or (slice_get bs serial) false)
  GivesValues ws bs v (apply s terms) = GivesEach ws bs v terms
  GivesValues ws bs v _ = Unit {0}

  pub GivesEach : List (List ℕ) → List Bool → Valuation → Terms → Type 0
  GivesEach ws bs v no_terms = Unit {0}
  GivesEach ws bs v (with_term term terms) = GivesValues ws bs v term × GivesEach ws bs v terms
