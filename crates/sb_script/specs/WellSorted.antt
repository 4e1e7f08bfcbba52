-- Well-sorted terms: each symbol in them takes its arguments (SMT-LIB 2.6, section 3.6).
use Rattle.std.specs.Prelude.{ℕ, Bool, true, false, ◌&&◌, is_none, List, [], map, slice_get, Some, None}
use Rattle.sb_meaning.specs.Terms.{Sort, Term, Terms, apply, parameter, no_terms, with_term, terms_in}
use Rattle.sb_meaning.specs.Sorts.{sort_of, is_same_sort}
use Rattle.sb_script.specs.Heads.{judged}

-- the parameter of this place has the sort
abbrev pub is_parameter_of : List Sort → Sort → ℕ → Bool
is_parameter_of parameters sort place = elim (slice_get parameters place) [
  | Some other ↦ is_same_sort other sort
  | None ↦ false
]

-- the term is well sorted, and its parameters are of these sorts
abbrev mutual
  pub is_well_sorted_over : List Sort → Term → Bool
  is_well_sorted_over parameters (apply s terms) =
      is_none (judged s (map sort_of (terms_in terms))) && are_well_sorted_over parameters terms
  is_well_sorted_over parameters (parameter place sort) = is_parameter_of parameters sort place
  is_well_sorted_over parameters _ = true

  pub are_well_sorted_over : List Sort → Terms → Bool
  are_well_sorted_over parameters no_terms = true
  are_well_sorted_over parameters (with_term term terms) =
      is_well_sorted_over parameters term && are_well_sorted_over parameters terms

-- the term is well sorted, and has no parameters
abbrev pub is_well_sorted : Term → Bool
is_well_sorted t = is_well_sorted_over [] t
