-- What answering an entry does.
use Rattle.std.specs.Prelude.{◌≡◌, ℕ, Bool, true, false, if◌then◌else◌, List, [], ◌∷◌, ◌⊎◌, Option, Some, None, is_some, Result, Ok, Err}
use Rattle.sb_world.specs.Outside.{Outside, Rose}
use Rattle.sb_world.specs.Moved.{Write, moved_by, writing_all, IsProperFront}
use Rattle.sb_world.specs.declared.OutPort.TheVariants as out_port
use Rattle.sb_world.specs.declared.WorldError.{WorldError}
use Rattle.sb_world.specs.declared.WorldError.TheVariants as world_error
use Rattle.sb_reader.specs.Entries.{Entry}
use Rattle.sb_script.specs.State.{State}
use Rattle.sb_script.specs.Replies.{is_exit}
use Rattle.sb_script.specs.Verdicts.{Verdict, Replies, FindsUnproved}
use Rattle.sb_rulebook.specs.Judging.{Progress}
use Rattle.sb_sound.specs.Certified.{Certifies}
use Rattle.sb_prover.specs.Proving.{Proving, IsAbreast}
use Rattle.sb_stack.specs.Stacked as stack
use Rattle.sb_stack.specs.Stacked.{state_of}
use Rattle.sb_store.specs.declared.store.Store.{Store}
use Rattle.sb_session.specs.declared.command.Went.{Went}
use Rattle.sb_session.specs.declared.command.Went.TheVariants.{Go, Exited}
use Rattle.sb_session.specs.declared.command.SessionFault.{SessionFault}
use Rattle.sb_session.specs.declared.command.SessionFault.TheVariants as fault
use Rattle.sb_session.specs.declared.command.Stop.{Stop}
use Rattle.sb_session.specs.declared.command.Stop.TheVariants as stop

pub record SessionState : Type 0 where
  pub stack : stack.Stacked
  -- what is known of regexes and terms
  pub store : Store
  -- what is known of the proof, where one is written
  pub proof : Option Proving
  -- an earlier entry ended the run, or was not answered
  pub ended : Bool

-- a state of the script, and how far its proof has come
abbrev pub Stage : Type 0
Stage = State × Progress

-- what is known of the proof, where one is written
abbrev pub proof_of : Bool → Proving → Option Proving
proof_of true proving = Some proving
proof_of false proving = None

-- whether a proof is written
abbrev pub is_proved : SessionState → Bool
is_proved s = is_some s.proof

-- The proof has come so far as the session knows.
abbrev pub IsTracked : SessionState → Progress → Type 0
IsTracked s p = elim s.proof [ Some proving ↦ IsAbreast s.store proving p | None ↦ Unit {0} ]

-- An entry has a reply that it may have, which leads from a stage to another: with the lines of its proof, or without.
abbrev pub Answering : Bool → Stage → Entry → List ℕ → List ℕ → Option Verdict → Stage → Type 0
Answering true before entry lines reply found after = Certifies before entry lines reply found after
Answering false before entry lines reply found after =
    Replies FindsUnproved before.0 entry lines found reply after.0 × (after.1 ≡ before.1)

-- lines of the proof, where there are any, and then what answers
abbrev pub with_lines : List ℕ → List Write → List Write
with_lines [] writes = writes
with_lines (b ∷ bs) writes = (out_port.Proof, b ∷ bs) ∷ writes

-- What is written for an entry: the lines of its proof, and then the reply.
pub record Answers (proved : Bool) (before : Stage) (entry : Entry) (writes : List Write) (after : Stage) : Type 0
  where
    pub lines : List ℕ
    pub reply : List ℕ
    pub found : Option Verdict
    pub answered : Answering proved before entry lines reply found after
    pub written : writes ≡ with_lines lines ((out_port.Answers, reply) ∷ [])

-- of these pieces a front is written, and not all
abbrev pub CutOf : List Write → Outside → Outside → Type 0
CutOf writes old new = (front : List Write) × IsProperFront front writes × (new ≡ moved_by (writing_all front) old)

-- An entry is answered, and all of it is written; the proof has come from here so far as the session knows.
pub record AnswersFrom (p : Progress) (entry : Entry) (session after : SessionState) (old new : Outside) : Type 0 where
  pub writes : List Write
  pub progress : Progress
  pub answers : Answers (is_proved session) (state_of session.stack, p) entry writes (state_of after.stack, progress)
  pub tracked : IsTracked after progress
  pub outside : new ≡ moved_by (writing_all writes) old

abbrev pub AnswersEntry : Entry → SessionState → SessionState → Outside → Outside → Type 0
AnswersEntry entry session after old new = (p : Progress) → IsTracked session p
    → AnswersFrom p entry session after old new

-- less than all of what answers the entry is written
pub record CutReply (p : Progress) (entry : Entry) (session : SessionState) (old new : Outside) : Type 0 where
  pub writes : List Write
  pub after : Stage
  pub answers : Answers (is_proved session) (state_of session.stack, p) entry writes after
  pub cut : CutOf writes old new

-- nothing is written, or less than all of an answer
abbrev pub CutOrNot : Entry → SessionState → Outside → Outside → Type 0
CutOrNot entry session old new = (p : Progress) → IsTracked session p
    → (new ≡ old) ⊎ CutReply p entry session old new

abbrev pub went_of : Entry → Went
went_of entry = if is_exit entry then Exited else Go

abbrev pub is_exited : Went → Bool
is_exited Go = false
is_exited Exited = true

-- The entry is answered, and the session has ended exactly where it was (exit).
pub record Goes (went : Went) (entry : Entry) (old new : SessionState) (before after : Outside) : Type 0 where
  pub went_is : went ≡ went_of entry
  pub had_not_ended : old.ended ≡ false
  pub ends : new.ended ≡ is_exited went
  pub same_kind : is_proved new ≡ is_proved old
  pub answers : AnswersEntry entry old new before after

-- The session had ended, and nothing is done; or it ends here, with less than all of the reply written. The steps of a
-- check are spent only where no proof is written.
abbrev pub Fails : SessionFault → Entry → SessionState → SessionState → Outside → Outside → Type 0
Fails fault.Ended entry old new before after = (old.ended ≡ true) × (new ≡ old) × (after ≡ before)
Fails fault.Fault entry old new before after = (old.ended ≡ false) × (new.ended ≡ true)
    × CutOrNot entry old before after
Fails fault.NoMemory entry old new before after = (old.ended ≡ false) × (new.ended ≡ true)
    × CutOrNot entry old before after
Fails fault.Spent entry old new before after = (is_proved old ≡ false) × (old.ended ≡ false) × (new.ended ≡ true)
    × CutOrNot entry old before after

abbrev pub stop_of : WorldError → Stop
stop_of world_error.Failed = stop.Fault
stop_of world_error.NoMemory = stop.NoMemory

abbrev pub fault_of : Stop → SessionFault
fault_of stop.Fault = fault.Fault
fault_of stop.NoMemory = fault.NoMemory
fault_of stop.Spent = fault.Spent

-- only a fault raises the count of faults, and a fault does
abbrev pub CountsSessionFault : {T : Type 0} → Result T SessionFault → ℕ → ℕ → Type 0
CountsSessionFault (Ok x) old new = new ≡ old
CountsSessionFault (Err fault.Fault) old new = Rose old new
CountsSessionFault (Err fault.NoMemory) old new = new ≡ old
CountsSessionFault (Err fault.Spent) old new = new ≡ old
CountsSessionFault (Err fault.Ended) old new = new ≡ old

abbrev pub CountsStop : {T : Type 0} → Result T Stop → ℕ → ℕ → Type 0
CountsStop (Ok x) old new = new ≡ old
CountsStop (Err stop.Fault) old new = Rose old new
CountsStop (Err stop.NoMemory) old new = new ≡ old
CountsStop (Err stop.Spent) old new = new ≡ old
