-- Private: what is said of wanted memberships of several pieces.
use Rattle.std.specs.Prelude.{◌≡◌, ℕ, Bool, true, false, not, ◌&&◌, List, [], Option, Some, None}
use Rattle.sb_theory.specs.Words.{Ask, Assigned, Fine, Lit}
use Rattle.sb_lit.specs.Budgets.{Spending}
use Rattle.sb_lit.specs.Clauses.{is_among}
use Rattle.sb_trail.specs.Assignments.{value_of}
use Rattle.sb_script.specs.Steps.{line as ended}
use Rattle.sb_rulebook.specs.Lines.{step, rule_line, text_of}
use Rattle.sb_rulebook.specs.LineLaws.{has_text}
use Rattle.sb_proof.specs.Tapes.{with_bytes}
use Rattle.sb_search.specs.declared.theory.Checked.{Checked}
use Rattle.sb_theory.specs.Memberships.{is_atom, is_joined, is_true_by}
use Rattle.sb_theory.specs.Strings.{Holds, IsWrong}
use Rattle.sb_theory.specs.Walks.{IsFalseStep}
use Rattle.sb_theory.specs.Wanted.{is_wanted, wanted_on}
use Rattle.sb_theory.specs.Wishes.{IsWish}
use Rattle.sb_theory.specs.declared.strings.Strings.{Strings}
use Rattle.sb_theory.specs.declared.strings.walking.Walked.{Walked}
use Rattle.sb_theory.specs.declared.strings.walking.Walked.TheVariants as walked

-- each literal of a wanted membership of several pieces on the trail is true of the words; or one that is noted is
-- wrong
abbrev pub AreJudged : Strings → List Assigned → Option Lit → Type 0
AreJudged y entries None = (l : Lit) → is_among (wanted_on y.wanted entries) l ≡ true
    → is_joined y.atoms l.atom ≡ true → is_true_by y.store.arena y.atoms y.words.items l ≡ true
AreJudged y entries (Some l) = IsWrong y entries l

-- the literal is of a noted membership of several pieces, and the words make it false
abbrev pub is_wrong_by : Strings → Lit → Bool
is_wrong_by y l = (is_wanted y.noted l.atom && is_joined y.atoms l.atom)
    && not (is_true_by y.store.arena y.atoms y.words.items l)

-- nothing is said, or a wish is told
abbrev pub IsDecided : Strings → List Assigned → Checked → Type 0
IsDecided y entries (Ask l) = (value_of entries l.atom ≡ None) × IsWish y l.atom × (is_atom y.atoms l.atom ≡ true)
IsDecided y entries Fine = Unit {0}
IsDecided y entries _ = ⊥

-- what a walk has ended with, that may be said
abbrev pub IsSaid : Strings → List Assigned → Spending → Walked → Type 0
IsSaid y entries budget (walked.Ask l) =
    (value_of entries l.atom ≡ None) × IsWish y l.atom × (is_atom y.atoms l.atom ≡ true)
IsSaid y entries budget (walked.Step clause) = IsFalseStep y entries clause
IsSaid y entries budget (walked.To l) = ⊥
IsSaid y entries budget walked.Noted = ⊥
IsSaid y entries budget walked.Spent = budget.spent ≡ budget.limit

-- all is to be taken in once more
abbrev pub is_again : Walked → Bool
is_again walked.Noted = true
is_again (walked.Ask l) = false
is_again (walked.Step clause) = false
is_again (walked.To l) = false
is_again walked.Spent = false

-- nothing is taken in, and the words stay
pub record IsTakenBack (x y : Strings) : Type 0 where
  pub holds : Holds y
  pub none : y.taken.items ≡ []
  pub words : y.words ≡ x.words
  pub noted : y.noted ≡ x.noted

-- the line of a clause by rule step was put, which has a text
pub record PutsStep (clause : List Lit) (old new : Option (List ℕ)) : Type 0 where
  pub text : has_text (rule_line step clause) ≡ true
  pub told : new ≡ with_bytes (ended (text_of (rule_line step clause))) old
