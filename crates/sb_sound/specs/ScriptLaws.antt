-- What is true of each state of a script: its terms fit the sorts of its constants. Each entry keeps it so.
use Rattle.std.specs.Prelude.{◌≡◌, ℕ, Bool, true, ◌&&◌, nat_lt, List, [], ◌∷◌, length, Some}
use Rattle.std.specs.List.{list_all}
use Rattle.sb_word.specs.Words.{are_characters}
use Rattle.sb_lit.specs.Kept.{KeptClause, kept_at}
use Rattle.sb_meaning.specs.Terms.{Sort, Term, Terms, boolean, constant, word, numeral, apply, parameter, no_terms, with_term}
use Rattle.sb_meaning.specs.Values.{default_of, is_of}
use Rattle.sb_reader.specs.Entries.{Entry}
use Rattle.sb_script.specs.Scopes.{Named, Naming, a_constant, a_definition, a_marked_name, a_term}
use Rattle.sb_script.specs.State.{Assertion, asserted, a_mark, Assumption, Level, State, start, Satisfiable}
use Rattle.sb_script.specs.Steps.{Step, answers, leaves, checks, exits, above, all}
use Rattle.sb_script.specs.Replies.{step_of}
use Rattle.sb_script.specs.Verdicts.{IsCore}
use Rattle.sb_rulebook.specs.AtomRules.{is_declared}
use Rattle.sb_rulebook.specs.Kept.{AllKept}
use Rattle.sb_rulebook.specs.Accepted.{asked_in, question_in}
use Rattle.sb_rulebook.specs.Verdicts.{denied_by, refutes}
use Rattle.sb_sound.specs.SoundLaws.{AreTerms, IsSound, KeepsSorts, Continues, GoesOn}

-- the constants of the term are declared with their sorts, its words are of characters, and its parameters are among
-- the first so many
abbrev mutual
  pub fits_in : List Sort → ℕ → Term → Bool
  fits_in sorts n (constant serial sort) = is_declared sorts sort serial
  fits_in sorts n (word w) = are_characters w
  fits_in sorts n (numeral k) = true
  fits_in sorts n (apply s terms) = all_in sorts n terms
  fits_in sorts n (parameter place sort) = nat_lt place n

  pub all_in : List Sort → ℕ → Terms → Bool
  all_in sorts n no_terms = true
  all_in sorts n (with_term t ts) = fits_in sorts n t && all_in sorts n ts

-- what a name stands for fits the sorts
abbrev pub kind_fits : List Sort → ℕ → Named → Bool
kind_fits sorts n (a_constant serial sort) = is_declared sorts sort serial
kind_fits sorts n (a_definition kinds body) = fits_in sorts (length kinds) body
kind_fits sorts n a_marked_name = true
kind_fits sorts n (a_term t) = fits_in sorts n t

abbrev pub naming_fits : List Sort → ℕ → Naming → Bool
naming_fits sorts n naming = kind_fits sorts n naming.1

abbrev pub assertion_fits : List Sort → Assertion → Bool
assertion_fits sorts (asserted term) = fits_in sorts 0 term
assertion_fits sorts a_mark = true

pub record Fits (sorts : List Sort) (level : Level) : Type 0 where
  pub names : list_all (naming_fits sorts 0) level.names ≡ true
  pub assertions : list_all (assertion_fits sorts) level.assertions ≡ true

abbrev pub AllFit : List Sort → Level → List Level → Type 0
AllFit sorts first [] = Fits sorts first
AllFit sorts first (level ∷ levels) = AllFit sorts first levels × Fits sorts level

-- the sort's default is of the sort: all sorts of constants are such
abbrev pub has_default : Sort → Bool
has_default sort = is_of sort (default_of sort)

-- the names in force and the live terms fit the sorts of the constants
abbrev pub IsFit : State → Type 0
IsFit s = AllFit s.sorts s.first s.above × (list_all has_default s.sorts ≡ true)

abbrev pub StartIsFit : Type 0
StartIsFit = IsFit start

-- live terms that fit by levels are terms of what is asked
abbrev pub FitMeansTerms : Type 0
FitMeansTerms = (s : State) → IsFit s → AreTerms (asked_in s)

-- The script goes on to a state that fits: no assertion is lost, or where levels are left none of those that stay.
abbrev pub LeadsOn : State → Step → Type 0
LeadsOn s (answers text new) = Continues (asked_in s) (asked_in new) × IsFit new
LeadsOn s (leaves (above level) text new) = GoesOn level (asked_in s) (asked_in new) × IsFit new
LeadsOn s (leaves all text new) = KeepsSorts (asked_in s) (asked_in new) × IsFit new
LeadsOn s (checks given) = Unit {0}
LeadsOn s (exits text) = Unit {0}

-- each entry of a script leads on
abbrev pub EntriesLeadOn : Type 0
EntriesLeadOn = (entry : Entry) (s : State) → IsFit s → LeadsOn s (step_of entry s)

-- the assumption is of a declared constant of sort Bool
abbrev pub assumption_fits : List Sort → Assumption → Bool
assumption_fits sorts a = is_declared sorts boolean a.0

-- Where what is kept is true, and each literal of a kept clause denies an assumption, no values make all live
-- assertions and all assumptions true, nor all live assertions and those assumptions alone that the clause denies.
abbrev pub ClauseRefutes : Type 0
ClauseRefutes = (s : State) (given : List Assumption) (kept : AllKept) (id : ℕ) (clause : KeptClause) → IsFit s
    → list_all (assumption_fits s.sorts) given ≡ true → IsSound (asked_in s) kept
    → kept_at kept.clauses id ≡ Some clause → refutes (question_in s given) kept clause ≡ true
    → (Satisfiable s given → ⊥) × IsCore s given (denied_by (question_in s given) kept clause)
