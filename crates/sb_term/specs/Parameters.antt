-- Terms in which parameters of definitions stand.
use Rattle.std.specs.Prelude.{Bool, true, false, ◌||◌}
use Rattle.sb_meaning.specs.Terms.{Term, Terms, apply, parameter, no_terms, with_term}

-- a parameter stands in the term
abbrev mutual
  pub has_parameters : Term → Bool
  has_parameters (apply s terms) = have_parameters terms
  has_parameters (parameter place sort) = true
  has_parameters _ = false

  pub have_parameters : Terms → Bool
  have_parameters no_terms = false
  have_parameters (with_term term terms) = has_parameters term || have_parameters terms
