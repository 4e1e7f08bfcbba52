-- How far a proof has come along a script, as far as the judge knows.
use Rattle.std.specs.Prelude.{◌≡◌, ◌^◌, ◌-◌, ℕ, Bool, true, false, List, [], ◌∷◌, ◌++◌, Option, Some, None}
use Rattle.sb_proof.specs.declared.line.Line.{Line}
use Rattle.sb_proof.specs.declared.line.Line.TheVariants as code
use Rattle.sb_proof.specs.declared.line.Said.{Said}
use Rattle.sb_proof.specs.Lines.{said_in}
use Rattle.sb_rulebook.specs.Kept.{AllKept, nothing_kept}
use Rattle.sb_rulebook.specs.Lines as lines
use Rattle.sb_rulebook.specs.Judging.{Phase, at_rest, at_check, at_end, behind_end, Progress, stop}
use Rattle.sb_stack.specs.Stacked.{Stacked, question_of}
use Rattle.sb_models.specs.Knowing.{Knows}
use Rattle.sb_rules.specs.Kept.{IsOver, kept_in}
use Rattle.sb_check.specs.declared.judge.Judge.{Judge}
use Rattle.sb_check.specs.declared.reason.JudgeFault.{JudgeFault}
use Rattle.sb_check.specs.declared.reason.JudgeFault.TheVariants as fault
use Rattle.sb_check.specs.declared.reason.TakeFault.{TakeFault}
use Rattle.sb_check.specs.declared.reason.TakeFault.TheVariants as take_fault
use Rattle.sb_check.specs.Reasons.{reason_in}

-- What is kept of the script and of the proof belongs to the state.
pub record IsStanding (j : Judge) : Type 0 where
  pub over : IsOver j.stack.table j.kept
  pub models : Knows j.models j.stack
  pub fresh : j.begun ≡ false → (format : ℕ) → kept_in j.kept (nothing_kept format) ≡ nothing_kept format

-- The proof is in this phase, and has come so far.
pub record IsAt (phase : Phase) (j : Judge) (p : Progress) : Type 0 where
  pub is : p.phase ≡ phase
  pub begun : p.begun ≡ j.begun
  pub next : p.next ≡ j.next
  pub others : AllKept
  pub format : others.format ≡ 1
  pub kept : p.kept ≡ kept_in j.kept others

-- where a check waits, under the assumptions of the stack
abbrev pub waiting_in : Stacked → Phase
waiting_in stack = at_check (question_of stack)

-- the verdict that the line says, where this is true
abbrev pub said_when : Bool → Line → Option Said
said_when false line = None
said_when true (code.Verdict said) = Some said
said_when true _ = None

-- A line was taken: the check waits on, or it has its verdict.
abbrev pub Took : Option Said → Judge → List lines.Said → Progress → Type 0
Took None j said p = IsAt (waiting_in j.stack) j p × (p.said ≡ said)
Took (Some one) j said p = IsAt at_rest j p × (p.said ≡ said ++ said_in one ∷ [])

-- the phase behind a line where the end of the proof is due
abbrev pub behind_line : Bool → Phase
behind_line false = at_end
behind_line true = behind_end

-- A line was taken where the end is due, and it is the last one or not.
abbrev pub TookLast : Bool → Judge → List lines.Said → Progress → Type 0
TookLast last j said p = IsAt (behind_line last) j p × (p.said ≡ said)

-- A line was refused, of this number and for this reason. Want of memory says nothing.
abbrev pub IsRefusal : JudgeFault → Progress → Progress → Type 0
IsRefusal (fault.Refused line reason) p after = (line ≡ p.next) × (after ≡ stop (reason_in reason) p)
IsRefusal fault.NoMemory p after = Unit {0}

-- A line was not taken: it was refused, or memory was wanted, or its number is the last one of 64 bits.
abbrev pub IsNotTaken : TakeFault → Progress → Progress → Type 0
IsNotTaken (take_fault.Judged f) p after = IsRefusal f p after
IsNotTaken take_fault.PastNumbers p after = Unit {0}

abbrev pub IsAtLast : TakeFault → ℕ → Type 0
IsAtLast (take_fault.Judged f) n = Unit {0}
IsAtLast take_fault.PastNumbers n = n ≡ 2 ^ 64 - 1

-- the script's state, and how far the proof has come, are the same
pub record IsSame (old new : Judge) : Type 0 where
  pub stack : new.stack ≡ old.stack
  pub begun : new.begun ≡ old.begun
  pub next : new.next ≡ old.next
