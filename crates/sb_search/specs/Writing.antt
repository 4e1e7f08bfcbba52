-- What stands in a proof so far, and the lines that a search writes itself.
use Rattle.std.specs.Prelude.{ℕ, ◌+◌, true, false, List, [], ◌∷◌, ◌++◌, Option, Some}
use Rattle.sb_lit.specs.declared.clause.Lit.{Lit}
use Rattle.sb_lit.specs.Budgets.{Spending}
use Rattle.sb_lit.specs.Kept.{Kept}
use Rattle.sb_script.specs.Steps.{line}
use Rattle.sb_rulebook.specs.Lines.{learned_line, rule_line, gate, text_of}
use Rattle.sb_proof.specs.Tapes.{with_bytes}
use Rattle.sb_search.specs.Asking.{with_lemma}
use Rattle.sb_search.specs.declared.theory.Checked.{Checked}
use Rattle.sb_search.specs.declared.theory.Checked.TheVariants as checked

-- a proof so far: the clauses that its reader keeps, the budget that its counted lines spend of, what its tape tells
pub record Written : Type 0 where
  pub kept : Kept
  pub budget : Spending
  pub told : Option (List ℕ)

abbrev pub written : Kept → Spending → Option (List ℕ) → Written
written kept budget told = record { kept = kept; budget = budget; told = told }

-- with the line of a clause that is learned by hints, which is counted
abbrev pub with_learned : List Lit → List ℕ → ℕ → Written → Written
with_learned clause hints level w = record {
  kept = w.kept ++ Some (record { literals = clause; level = level }) ∷ [];
  budget = record w.budget { spent = w.budget.spent + 1 };
  told = with_bytes (line (text_of (learned_line clause hints))) w.told;
}

-- the clause that an atom is true or false
abbrev pub true_or_false : ℕ → List Lit
true_or_false atom = record { atom = atom; positive = true } ∷ record { atom = atom; positive = false } ∷ []

-- with the line of that clause, which is not counted
abbrev pub with_gate : ℕ → Written → Written
with_gate atom w = record {
  kept = with_lemma w.kept (true_or_false atom);
  budget = w.budget;
  told = with_bytes (line (text_of (rule_line gate (true_or_false atom)))) w.told;
}

-- what is kept behind an answer of a theory: the clause of a lemma too
abbrev pub kept_behind : Kept → Checked → Kept
kept_behind kept checked.Fine = kept
kept_behind kept (checked.Lemma clause) = with_lemma kept clause
kept_behind kept (checked.Ask l) = kept
kept_behind kept checked.Spent = kept
