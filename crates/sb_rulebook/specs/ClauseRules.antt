-- The rules of the lines that give a clause.
use Rattle.std.specs.Prelude.{ℕ, Bool, true, false, not, ◌&&◌, if◌then◌else◌, List, [], ◌∷◌, slice_get, Option, Some, None, Result, Ok, Err}
use Rattle.sb_lit.specs.declared.clause.Lit.{Lit}
use Rattle.sb_lit.specs.Clauses.{is_same_literal, are_ascending}
use Rattle.sb_meaning.specs.Terms.{Term}
use Rattle.sb_script.specs.Brought.{a_statement_of, is_brought}
pub use Rattle.sb_rulebook.specs.Refusals.{Refusal, unknown_id, repeated, hint_idle, rule_broken}
use Rattle.sb_rulebook.specs.Atoms.{Atom}
use Rattle.sb_rulebook.specs.Translation.{translation}
use Rattle.sb_rulebook.specs.Lines.{Rule, gate, order, linear, step, empty}
use Rattle.sb_lit.specs.Hints.{Unlearned, unknown_hint, repeated_clause, idle_hint, not_by_hints, is_repeated, learned}
use Rattle.sb_rulebook.specs.Kept.{AllKept, Asked, counting, with_clause, rests_of_any}
use Rattle.sb_rulebook.specs.AtomRules.{is_known, are_known}
use Rattle.sb_rulebook.specs.Gates.{is_gate}
use Rattle.sb_rulebook.specs.BoundClauses.{is_order, is_linear}
use Rattle.sb_rulebook.specs.Splits.{is_step, is_empty}

-- Clauses by a rule. The literals of each ascend.

-- A rule: whether its clauses are counted, and which clauses are its own. Counted ones are new: no kept clause is a
-- subset.
pub record ClauseRule : Type 0 where
  pub counts : Bool
  pub has : AllKept → List Lit → Bool

-- each rule has its row
abbrev pub row_of : Rule → ClauseRule
row_of gate = record { counts = false; has = λ kept. is_gate kept.atoms }
row_of order = record { counts = false; has = λ kept. is_order kept.atoms }
row_of linear = record { counts = true; has = λ kept. is_linear kept.atoms }
row_of step = record { counts = true; has = λ kept. is_step kept.atoms }
row_of empty = record { counts = true; has = is_empty }

abbrev pub holds_by : AllKept → Rule → List Lit → Bool
holds_by kept rule = (row_of rule).has kept

abbrev pub is_counted : Rule → Bool
is_counted rule = (row_of rule).counts

abbrev pub follows_rule : Asked → AllKept → Rule → List Lit → Result AllKept Refusal
follows_rule asked kept rule clause =
    if not (are_known kept.atoms clause) then Err unknown_id
    else if is_counted rule && is_repeated kept.clauses clause then Err repeated
    else if not (are_ascending clause && holds_by kept rule clause) then Err rule_broken
    else if is_counted rule then counting asked (with_clause kept clause 0 [])
    else Ok (with_clause kept clause 0 [])

abbrev pub is_this : Lit → Option Lit → Bool
is_this l None = false
is_this l (Some m) = is_same_literal l m

-- The literal of a live assertion is a clause of the assertion's level, and rests on it. An assertion that breaks a rule
-- of the fragment by itself, as one past the limits on sizes, has none, whatever atoms there are.
abbrev pub is_translation : List Atom → Option Term → Lit → Bool
is_translation atoms None l = false
is_translation atoms (Some t) l = is_brought (a_statement_of t) && is_this l (translation atoms t)

abbrev pub asserted : AllKept → ℕ → Option Term × ℕ → Lit → Result AllKept Refusal
asserted kept place assertion l =
    if is_translation kept.atoms assertion.0 l then Ok (with_clause kept (l ∷ []) assertion.1 (place ∷ []))
    else Err rule_broken

abbrev pub follows_assertion : Asked → AllKept → ℕ → Lit → Result AllKept Refusal
follows_assertion asked kept place l =
    elim (slice_get asked.live place) [
      | None ↦ Err unknown_id
      | Some assertion ↦ if is_known kept.atoms l then asserted kept place assertion l else Err unknown_id
    ]

-- the refusal of a clause that is not learned by its hints
abbrev pub refusal_of : Unlearned → Refusal
refusal_of unknown_hint = unknown_id
refusal_of repeated_clause = repeated
refusal_of idle_hint = hint_idle
refusal_of not_by_hints = rule_broken

-- A learned clause has the greatest level of its hints, and rests on what they rest on.
abbrev pub follows_learned : Asked → AllKept → List Lit → List ℕ → Result AllKept Refusal
follows_learned asked kept clause ids =
    if not (are_known kept.atoms clause) then Err unknown_id
    else elim (learned kept.clauses clause ids) [
      | Err unlearned ↦ Err (refusal_of unlearned)
      | Ok level ↦ counting asked (with_clause kept clause level (rests_of_any kept ids))
    ]
