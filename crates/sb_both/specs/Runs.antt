-- Private: what passes from the solver to the checker, and what both are asked.
use Rattle.std.specs.Prelude.{ℕ, ◌^◌, List, [], ◌∷◌, Some, codes}
use Rattle.sb_reader.specs.Entries.{Entry}
use Rattle.sb_rulebook.specs.Accepted.{Accepted}
use Rattle.sb_sound.specs.Outcomes.{AreEntriesOf}
use Rattle.sb_session.specs.Replying as solve
use Rattle.sb_check.specs.Running as check

-- The proof is accepted along with all entries of the script.
pub record Proves (script proof : List ℕ) : Type 0 where
  pub entries : List Entry
  pub all : AreEntriesOf script entries
  pub accepted : Accepted entries proof

-- the names of the files
abbrev pub script_name : List ℕ
script_name = codes "script"

abbrev pub proof_name : List ℕ
proof_name = codes "proof"

-- the words of the solver, and what they ask
abbrev pub solver_words : List (List ℕ)
solver_words = codes "strsolve" ∷ codes "--proof" ∷ proof_name ∷ script_name ∷ []

abbrev pub of_solver : solve.Asked
of_solver = solve.asked_for (Some script_name) (Some proof_name) (2 ^ 32)

-- the words of the checker, and what they ask
abbrev pub checker_words : List (List ℕ)
checker_words = codes "strcheck" ∷ script_name ∷ proof_name ∷ []

abbrev pub of_checker : check.Asked
of_checker = check.asked_for script_name proof_name (2 ^ 32)
