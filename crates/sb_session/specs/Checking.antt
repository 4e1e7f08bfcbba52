-- Private: what answering a check does.
use Rattle.std.specs.Prelude.{◌≡◌, ℕ, Bool, true, false, List, [], ◌∷◌, length, take, Option, IfSome}
use Rattle.sb_world.specs.Outside.{Outside}
use Rattle.sb_world.specs.Moved.{moved_by, writing_all}
use Rattle.sb_world.specs.declared.OutPort.TheVariants as out_port
use Rattle.sb_script.specs.SortedStates.{is_sorted_state}
use Rattle.sb_script.specs.State.{State, Assumption}
use Rattle.sb_script.specs.Verdicts.{Verdict, FindsUnproved, verdict_text, settled}
use Rattle.sb_meaning.specs.Terms.{Term}
use Rattle.sb_rulebook.specs.Accepted.{asked_in}
use Rattle.sb_rulebook.specs.Kept.{Asked}
use Rattle.sb_rulebook.specs.Judging.{Event, Progress, met}
use Rattle.sb_sound.specs.Certified.{behind, FindsProved}
use Rattle.sb_prover.specs.Proving.{Proving, IsAbreast, HaveLevels, AreLow, leaving, GoesDown}
use Rattle.sb_stack.specs.Stacked.{Stacked, state_of, given_in}
use Rattle.sb_stack.specs.declared.verdict.Verdict as code
use Rattle.sb_stack.specs.declared.verdict.Verdict.TheVariants as verdict
use Rattle.sb_sound.specs.ScriptLaws.{IsFit}
use Rattle.sb_decide.specs.declared.decide.Decider.{Decider}
use Rattle.sb_decide.specs.Knowing.{Knows}
use Rattle.sb_atoms.specs.Numbered.{HaveRegexesBelow}
use Rattle.sb_solve.specs.Words.{are_declared}
use Rattle.sb_solve.specs.Truth.{IsTrue}
use Rattle.sb_store.specs.declared.store.Store.{Store}
use Rattle.sb_session.specs.Commanding.{SessionState, is_proved, IsTracked, with_lines, CutOf}

-- a session that has not ended, by its parts
abbrev pub session_of : Stacked → Decider → Option Proving → SessionState
session_of stack decider proof = record { stack = stack; store = decider.store; proof = proof; ended = false }

-- the atoms of the evidence speak of regexes that are there
abbrev pub HasRegexes : Store → Proving → Type 0
HasRegexes store proving = HaveRegexesBelow (length store.arena) proving.evidence.atoms

-- each clause of an assertion in the evidence is of the level of the live assertion at its place
abbrev pub HasLevels : State → Proving → Type 0
HasLevels s proving = HaveLevels (asked_in s).live proving.evidence

-- what the evidence knows is true of the live assertions
abbrev pub HasTrue : State → Store → Proving → Type 0
HasTrue s store proving = IsTrue (asked_in s) store.arena store.graph.memo proving.evidence

-- the atoms of the evidence speak of constants that were declared
abbrev pub HasDeclared : State → Proving → Type 0
HasDeclared s proving = are_declared s.sorts proving.evidence.atoms ≡ true

-- What is known while a session goes on: of the live assertions, that they fit and are well sorted, and of the
-- evidence.
pub record Holds (stack : Stacked) (decider : Decider) (proving : Proving) : Type 0 where
  pub knows : Knows decider stack
  pub regexes : HasRegexes decider.store proving
  pub levels : HasLevels (state_of stack) proving
  pub fit : IsFit (state_of stack)
  pub sorted : is_sorted_state (state_of stack) ≡ true
  pub sound : HasTrue (state_of stack) decider.store proving
  pub declared : HasDeclared (state_of stack) proving

-- Where levels are left and so many assertions stay, what the prover knows goes along.
pub record LeavesProof (level : Option ℕ) (count : ℕ) (old new : Proving) : Type 0 where
  pub left : (store : Store) (live : List (Option Term × ℕ)) (p : Progress) → IsAbreast store old p
      → HaveLevels live old.evidence → IfSome level (λ n. AreLow n (take count live))
      → IsAbreast store new (met (leaving level) p)
  pub levels : (live : List (Option Term × ℕ)) → HaveLevels live old.evidence
      → HaveLevels (take count live) new.evidence
  pub atoms : new.evidence.atoms ≡ old.evidence.atoms
  pub sound : (store : Store) (before now : Asked) → GoesDown level before now
      → HaveLevels before.live old.evidence → IfSome level (λ n. AreLow n (take count before.live))
      → IsTrue before store.arena store.graph.memo old.evidence → IsTrue now store.arena store.graph.memo new.evidence

-- how far the proof comes behind the events of an entry that is no check, where one is written
abbrev pub progress_by : Bool → List Event → Progress → Progress
progress_by true es p = behind es p
progress_by false es p = p

-- the verdict is no want of a decision
abbrev pub IsKnown : code.Verdict → Type 0
IsKnown verdict.Unknown = ⊥
IsKnown _ = Unit {0}

-- a check under these assumptions finds a verdict, with the lines of its proof or without
abbrev pub Finds : Bool → Progress → Progress → State → List Assumption → List ℕ → Verdict → Type 0
Finds true before after s given lines v = FindsProved before after s given lines v
Finds false before after s given lines v = FindsUnproved s given lines v × (after ≡ before)

-- The lines of the proof of a verdict are written, where a proof is.
pub record ProvesCheck (s : State) (given : List Assumption) (v : Verdict) (p : Progress) (proved : Bool)
    (after : SessionState) (old new : Outside) : Type 0
  where
    pub lines : List ℕ
    pub progress : Progress
    pub finds : Finds proved p progress s given lines v
    pub tracked : IsTracked after progress
    pub outside : new ≡ moved_by (writing_all (with_lines lines [])) old

-- Less than all of the lines is written, or nothing.
pub record CutProof (s : State) (given : List Assumption) (p : Progress) (proved : Bool) (old new : Outside) : Type 0
  where
    pub v : Verdict
    pub lines : List ℕ
    pub progress : Progress
    pub finds : Finds proved p progress s given lines v
    pub cut : CutOf (with_lines lines []) old new

-- A check is answered, with the lines of its proof in front.
pub record AnswersCheck (p : Progress) (session after : SessionState) (old new : Outside) : Type 0 where
  pub v : Verdict
  pub lines : List ℕ
  pub progress : Progress
  pub finds : Finds (is_proved session) p progress (state_of session.stack) (given_in session.stack) lines v
  pub state : state_of after.stack ≡ settled v (state_of session.stack)
  pub tracked : IsTracked after progress
  pub outside : new ≡ moved_by (writing_all (with_lines lines ((out_port.Answers, verdict_text v) ∷ []))) old

-- Less than all of it is written.
pub record CutCheck (p : Progress) (session : SessionState) (old new : Outside) : Type 0 where
  pub v : Verdict
  pub lines : List ℕ
  pub progress : Progress
  pub finds : Finds (is_proved session) p progress (state_of session.stack) (given_in session.stack) lines v
  pub cut : CutOf (with_lines lines ((out_port.Answers, verdict_text v) ∷ [])) old new
