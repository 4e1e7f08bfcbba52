-- What a constant's word is asked to be in, as a regular expression among the terms of a table.
use Rattle.std.specs.Prelude.{ℕ, List}
use Rattle.sb_meaning.specs.Terms.{Term, apply, str_to_re, no_terms, with_term}
use Rattle.sb_term.specs.Numbered.{term_at}
use Rattle.sb_problem.specs.declared.pattern.Pattern.{Pattern}
use Rattle.sb_problem.specs.declared.pattern.Pattern.TheVariants.{Expression, Word}

-- the regular expression of a word: this word alone
abbrev pub literal_of : Term → Term
literal_of t = apply str_to_re (with_term t no_terms)

abbrev pub number_of : Pattern → ℕ
number_of (Expression id) = id
number_of (Word id) = id

abbrev pub pattern_in : List Term → Pattern → Term
pattern_in ts (Expression id) = term_at ts id
pattern_in ts (Word id) = literal_of (term_at ts id)
