-- Terms that are str.in_re or = of two arguments (SMT-LIB, theories Core and Unicode Strings).
use Rattle.std.specs.Prelude.{◌≡◌, ℕ, Bool, true, false, List}
use Rattle.sb_meaning.specs.Terms.{Term, text, constant, word, apply, no_terms, with_term}
use Rattle.sb_meaning.specs.Terms as symbol
use Rattle.sb_term.specs.Numbered.{term_at}
use Rattle.sb_problem.specs.declared.pattern.Pattern.{Pattern}
use Rattle.sb_problem.specs.declared.pattern.Pattern.TheVariants.{Word}

abbrev pub in_re : Term → Term → Term
in_re t R = apply symbol.str_in_re (with_term t (with_term R no_terms))

abbrev pub is_in_re : Term → Bool
is_in_re (apply symbol.str_in_re (with_term t (with_term R no_terms))) = true
is_in_re _ = false

abbrev pub equality : Term → Term → Term
equality s t = apply symbol.core_equal (with_term s (with_term t no_terms))

abbrev pub is_equality : Term → Bool
is_equality (apply symbol.core_equal (with_term s (with_term t no_terms))) = true
is_equality _ = false

-- a String constant, and the word of a literal
abbrev pub are_sides : Term → Term → Bool
are_sides (constant serial text) (word w) = true
are_sides _ _ = false

-- the terms are the constant, and the word of a literal, which is the pattern
pub record IsSides (ts : List Term) (one other serial : ℕ) (pattern : Pattern) : Type 0 where
  pub constant : term_at ts one ≡ constant serial text
  pub letters : List ℕ
  pub literal : term_at ts other ≡ word letters
  pub is : pattern ≡ Word other
