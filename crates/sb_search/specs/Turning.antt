-- Private: what turns make of a theory, a search and a proof.
use Rattle.std.specs.Prelude.{◌≡◌, ◌≢◌, ℕ, ◌-◌, ◌<◌, ◌≤◌, ◌⊎◌, Bool, true, List, [], ◌∷◌, ◌++◌, length, Option, Some}
use Rattle.sb_lit.specs.declared.clause.Lit.{Lit}
use Rattle.sb_lit.specs.Budgets.{Spending}
use Rattle.sb_lit.specs.Clauses.{is_among}
use Rattle.sb_lit.specs.Kept.{Kept, KeptClause, kept_up_to}
use Rattle.sb_trail.specs.declared.assigned.Assigned.{Assigned}
use Rattle.sb_trail.specs.Assignments.{up_to}
use Rattle.sb_clauses.specs.Propagation.{State}
use Rattle.sb_analyze.specs.Reasons.{AreReasoned}
use Rattle.sb_analyze.specs.Learning.{IsSettledBelow, IsLesson}
use Rattle.sb_rulebook.specs.Lines.{learned_line, rule_line, gate}
use Rattle.sb_rulebook.specs.LineLaws.{has_text}
use Rattle.sb_search.specs.Asking.{AreKnown, HasKnownAtoms, IsFair, Falls}
use Rattle.sb_search.specs.Following.{all_hold, FollowsByLevel}
use Rattle.sb_search.specs.Found.{IsFound, GrowsTo}
use Rattle.sb_search.specs.Searching.{IsSearching}
use Rattle.sb_search.specs.Writing.{Written, written, kept_behind, with_learned, with_gate, true_or_false}
use Rattle.sb_search.specs.declared.stage.Stage.{Stage}
use Rattle.sb_search.specs.declared.found.Found.{Found}
use Rattle.sb_search.specs.declared.found.Found.TheVariants as found
use Rattle.sb_search.specs.declared.turn.Turn.{Turn}
use Rattle.sb_search.specs.declared.turn.Turn.TheVariants as turn
use Rattle.sb_search.specs.declared.theory.Checked.{Checked}
use Rattle.sb_search.specs.declared.theory.Checked.TheVariants as checked
use Rattle.sb_search.specs.declared.theory.Theory.{Ghosts}

-- a theory and a search at one time, the budget, and what the tape tells
pub record Moment (T : Type 0) : Type 0 where
  pub theory : T
  pub search : State
  pub budget : Spending
  pub told : Option (List ℕ)

abbrev pub moment : {T : Type 0} → T → State → Spending → Option (List ℕ) → Moment T
moment theory search budget told = record { theory = theory; search = search; budget = budget; told = told }

-- the proof so far
abbrev pub proof_at : {T : Type 0} → Moment T → Written
proof_at m = written m.search.kept m.budget m.told

-- the measure of what is kept and of what is true
abbrev pub measure_at : {T : Type 0} → Ghosts T → Moment T → ℕ
measure_at t m = t.measure m.theory m.search.kept m.search.trail.literals

-- the places that are left on the trail
abbrev pub left_at : State → ℕ
left_at search = search.trail.reserved - length search.trail.literals

-- The theory wants the same atoms, and knows and teaches what it did.
pub record Stays {T : Type 0} (t : Ghosts T) (old new : T) : Type 0 where
  pub wanted : t.wanted new ≡ t.wanted old
  pub passes : (atom : ℕ) → t.passes old atom → t.passes new atom
  pub teaches : (clause : List Lit) → t.teaches old clause → t.teaches new clause

-- the laws of a theory
pub record HasLaws {T : Type 0} (t : Ghosts T) : Type 0 where
  pub stands_longer : (x : T) (entries more : List Assigned) → t.stands x entries → t.stands x (entries ++ more)
  pub measure_longer : (x : T) (kept : Kept) (entries more : List Assigned)
      → t.measure x kept (entries ++ more) ≤ t.measure x kept entries
  pub none : (x : T) (proof : Written) → t.puts x x proof proof
  pub both : (x y z : T) (before between after : Written) → t.puts x y before between → t.puts y z between after
      → t.puts x z before after
  pub learned : (x : T) (proof : Written) (clause : List Lit) (hints : List ℕ) (level : ℕ)
      → IsLesson proof.kept clause hints level → AreKnown (t.passes x) clause
      → has_text (learned_line clause hints) ≡ true → proof.budget.spent < proof.budget.limit
      → t.puts x x proof (with_learned clause hints level proof)
  pub gate : (x : T) (proof : Written) (atom : ℕ) → t.passes x atom
      → has_text (rule_line gate (true_or_false atom)) ≡ true → t.puts x x proof (with_gate atom proof)

-- levels are taken back in a theory
pub record GoesBack {T : Type 0} (t : Ghosts T) (old new : T) : Type 0 where
  pub stays : Stays t old new
  pub puts : (proof : Written) → t.puts old new proof proof
  pub falls : (kept : Kept) (entries : List Assigned) → t.measure new kept entries ≤ t.measure old kept entries

-- levels above this one are taken back, and a clause is kept
pub record Keeps {T : Type 0} (t : Ghosts T) (x y : T) (old new : State) (levels next : ℕ)
    (later : Stage) (level : ℕ) (clause : KeptClause) : Type 0 where
  pub kept : new.kept ≡ old.kept ++ Some clause ∷ []
  pub literals : new.trail.literals ≡ up_to level old.trail.literals
  pub stands : t.stands x old.trail.literals → t.stands y new.trail.literals
  pub searching : (assumptions : List Lit) → IsSearching (t.wanted x) assumptions levels next old
      → IsSettledBelow (old.kept ++ Some clause ∷ []) (up_to level old.trail.literals)
      → IsSearching (t.wanted y) assumptions later.levels later.next new

-- a theory and a search from which turns go on
pub record IsReady {T : Type 0} (t : Ghosts T) (assumptions : List Lit) (stage : Stage) (x : T)
    (search : State) : Type 0 where
  pub searching : IsSearching (t.wanted x) assumptions stage.levels stage.next search
  pub stands : t.stands x search.trail.literals
  pub known : HasKnownAtoms (t.passes x) search.kept assumptions

-- a time at which a search ends with this answer
pub record IsOver {T : Type 0} (t : Ghosts T) (assumptions : List Lit) (m : Moment T) (f : Found) : Type 0 where
  pub says : IsFound (t.wanted m.theory) assumptions m.search m.budget f
  pub agrees : f ≡ found.Sat → t.agrees m.theory m.search.trail.literals
  pub reasoned : AreReasoned m.search.kept [] m.search.trail.literals
  pub stands : t.stands m.theory m.search.trail.literals
  pub known : HasKnownAtoms (t.passes m.theory) m.search.kept assumptions

-- a budget of which as much is spent, or more, and that within its limit
pub record IsSpentOn (old new : Spending) : Type 0 where
  pub limit : new.limit ≡ old.limit
  pub spent : old.spent ≤ new.spent
  pub within : old.spent < new.spent → new.spent ≤ new.limit

-- what turns make of one time on the way to a later one
pub record Steps {T : Type 0} (t : Ghosts T) (a b : Moment T) : Type 0 where
  pub stays : Stays t a.theory b.theory
  pub grows : GrowsTo a.search.kept b.search.kept
  pub follows : FollowsByLevel (t.teaches b.theory) a.search.kept b.search.kept
  pub spends : IsSpentOn a.budget b.budget
  pub puts : t.puts a.theory b.theory (proof_at a) (proof_at b)

-- more was spent, or as much and this holds
abbrev pub IsSpentOr : Spending → Spending → Type 0 → Type 0
IsSpentOr before after P = (before.spent < after.spent) ⊎ ((after.spent ≡ before.spent) × P)

-- more was spent, or as much and the measure did not rise
abbrev pub IsNoWorse : {T : Type 0} → Ghosts T → Moment T → Moment T → Type 0
IsNoWorse t a b = IsSpentOr a.budget b.budget (measure_at t b ≤ measure_at t a)

-- more was spent, or as much and the measure fell
abbrev pub IsBetter : {T : Type 0} → Ghosts T → Moment T → Moment T → Type 0
IsBetter t a b = IsSpentOr a.budget b.budget (measure_at t b < measure_at t a)

-- how a turn ends: with an answer, with a longer trail on which nothing is worse, or with something better
abbrev pub GoesOn : {T : Type 0} → Ghosts T → List Lit → Stage → Moment T → Moment T → Turn → Type 0
GoesOn t assumptions stage a b (turn.Ends f) = IsOver t assumptions b f
GoesOn t assumptions stage a b turn.Decides = IsReady t assumptions stage b.theory b.search × IsNoWorse t a b
    × (left_at b.search < left_at a.search)
GoesOn t assumptions stage a b turn.Moves = IsReady t assumptions stage b.theory b.search × IsBetter t a b

-- what a turn makes of one time on the way to a later one
pub record IsTurned {T : Type 0} (t : Ghosts T) (assumptions : List Lit) (stage : Stage) (a b : Moment T)
    (how : Turn) : Type 0 where
  pub steps : Steps t a b
  pub goes_on : GoesOn t assumptions stage a b how

-- what a theory says of a trail on which no kept clause is false or leaves one literal
pub record IsAnswered {T : Type 0} (t : Ghosts T) (last : Bool) (a b : Moment T) (answer : Checked) : Type 0 where
  pub stays : Stays t a.theory b.theory
  pub stands : t.stands b.theory a.search.trail.literals
  pub spends : IsSpentOn a.budget b.budget
  pub fair : IsFair (t.passes b.theory) (t.teaches b.theory) a.search.trail.literals answer
  pub agrees : last ≡ true → answer ≡ checked.Fine → t.agrees b.theory a.search.trail.literals
  pub spent : answer ≡ checked.Spent → b.budget.spent ≡ b.budget.limit
  pub falls : b.budget.spent ≡ a.budget.spent
      → Falls (t.measure a.theory) (t.measure b.theory) a.search.kept a.search.trail.literals answer
  pub puts : t.puts a.theory b.theory (proof_at a) (written (kept_behind a.search.kept answer) b.budget b.told)

-- the new clauses are true wherever the old ones are, up to each level
abbrev pub Entails : Kept → Kept → Type 0
Entails old new = (values : ℕ → Bool) (level : ℕ) → all_hold values (kept_up_to level old) ≡ true
    → all_hold values (kept_up_to level new) ≡ true

-- a clause that is learned follows from what is kept
abbrev pub LessonsFollow : Type 0
LessonsFollow = (kept : Kept) (clause : List Lit) (hints : List ℕ) (level : ℕ) → IsLesson kept clause hints level
    → Entails kept (kept ++ Some (record { literals = clause; level = level }) ∷ [])

-- what the search writes itself: nothing, a clause that is learned where a step was left, or that the atom of an
-- assumption is true or false
pub data IsWritten (assumptions : List Lit) (before after : Written) : Type 0 where
  nothing : after ≡ before → IsWritten assumptions before after
  learns : (clause : List Lit) (hints : List ℕ) (level : ℕ) → IsLesson before.kept clause hints level
      → Entails before.kept (before.kept ++ Some (record { literals = clause; level = level }) ∷ [])
      → has_text (learned_line clause hints) ≡ true → before.budget.spent < before.budget.limit
      → after ≡ with_learned clause hints level before → IsWritten assumptions before after
  divides : (l : Lit) → is_among assumptions l ≡ true → has_text (rule_line gate (true_or_false l.atom)) ≡ true
      → after ≡ with_gate l.atom before → IsWritten assumptions before after

-- how a search ends where all decisions are assumptions
pub record Refutes (assumptions : List Lit) (old new : State) (before after : Spending)
    (told later : Option (List ℕ)) (f : Found) : Type 0 where
  pub says : (wanted : List ℕ) → IsFound wanted assumptions new after f
  pub not_sat : f ≢ found.Sat
  pub reasoned : AreReasoned new.kept [] new.trail.literals
  pub literals : new.trail.literals ≡ old.trail.literals
  pub writes : IsWritten assumptions (written old.kept before told) (written new.kept after later)
