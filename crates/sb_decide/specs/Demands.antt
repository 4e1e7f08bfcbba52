-- What a term demands of the word of one constant, where it demands this alone: the constant's serial, and the regular
-- expression that the word is to be in. A term that is denied demands a word that its regular expression lacks, so one
-- of the complement (SMT-LIB, theory Unicode Strings).
use Rattle.std.specs.Prelude.{ℕ, Bool, false, if◌then◌else◌, List, Option, Some, None, option_map}
use Rattle.sb_meaning.specs.Terms.{Term, apply, no_terms, with_term}
use Rattle.sb_meaning.specs.Terms as symbol
use Rattle.sb_script.specs.Brought.{asked, is_regex}
use Rattle.sb_problem.specs.Patterns.{pattern_in}
use Rattle.sb_decide.specs.declared.demand.Demand.{Demand}

abbrev pub negation_of : Term → Term
negation_of t = apply symbol.core_not (with_term t no_terms)

abbrev pub complement_of : Term → Term
complement_of R = apply symbol.re_comp (with_term R no_terms)

abbrev pub demanded : Term → Option (ℕ × Term)
demanded (apply symbol.core_not (with_term t no_terms)) = option_map (λ p. (p.0, complement_of p.1)) (asked t)
demanded t = asked t

-- the term is a membership of a constant in such a regular expression, its equality with a literal, or one of these
-- denied
abbrev pub is_demand : Term → Bool
is_demand t = elim (demanded t) [ Some p ↦ is_regex p.1 | None ↦ false ]

-- what the word is to be in
abbrev pub expression_in : List Term → Demand → Term
expression_in ts d = if d.positive then pattern_in ts d.pattern else complement_of (pattern_in ts d.pattern)
