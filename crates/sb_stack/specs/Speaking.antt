-- Which constants a term speaks of, and which of them assumptions are of.
use Rattle.std.specs.Prelude.{ℕ, Bool, true, false, ◌&&◌, ◌==◌, if◌then◌else◌, List, [], ◌∷◌}
use Rattle.std.specs.List.{list_all}
use Rattle.sb_meaning.specs.Sorts.{is_same_sort}
use Rattle.sb_meaning.specs.Terms.{Sort, Term, Terms, boolean, constant, word, numeral, apply, parameter, no_terms, with_term}
use Rattle.sb_script.specs.State.{Assumption}

-- the constant is one of these, by serial and sort; the first of a serial counts
abbrev pub is_one_of : List (ℕ × Sort) → ℕ → Sort → Bool
is_one_of [] serial sort = false
is_one_of (c ∷ cs) serial sort = if c.0 == serial then is_same_sort c.1 sort else is_one_of cs serial sort

-- the term speaks of these constants alone
abbrev mutual
  pub speaks_of : List (ℕ × Sort) → Term → Bool
  speaks_of cs (constant serial sort) = is_one_of cs serial sort
  speaks_of cs (word w) = true
  speaks_of cs (numeral m) = true
  speaks_of cs (apply s terms) = speak_of cs terms
  speaks_of cs (parameter place sort) = true

  pub speak_of : List (ℕ × Sort) → Terms → Bool
  speak_of cs no_terms = true
  speak_of cs (with_term term terms) = speaks_of cs term && speak_of cs terms

-- the assumptions are of these constants, of sort Bool
abbrev pub are_assumed : List (ℕ × Sort) → List Assumption → Bool
are_assumed cs assumptions = list_all (λ a. is_one_of cs a.0 boolean) assumptions
