-- What a run has written, where more is written.
use Rattle.std.proofs.Common.{◌≡◌, ℕ, ◌+◌, ◌<◌, List, ◌++◌, length, take, Result, Ok, Err, OnOk, OnErr, refl, sym, ap, ap₂, ◌∙◌, inr, arith}
use Rattle.std.proofs.Math.Seq.{take-append-add, take-append_seam}
use Rattle.sb_world.specs.Outside.{Outside, write_at}
use Rattle.sb_world.specs.Moved.{moved_by, nothing, writing}
use Rattle.sb_world.specs.declared.OutPort.TheVariants.{Answers, Faults}
use Rattle.sb_world.specs.declared.WorldError.{WorldError}
use Rattle.sb_world.specs.declared.WorldError.TheVariants.{Failed, NoMemory}
use Rattle.sb_world.proofs.CallerLemmas.{moved_by-both, write_at-moves}
use Rattle.sb_rulebook.specs.Refusals.{Refusal}
use Rattle.sb_rulebook.specs.Lines.{Said}
use Rattle.sb_rulebook.specs.Judging.{Outcome, accepted, refused}
use Rattle.sb_rulebook.specs.Accepted.{answer, verdict_lines}
use Rattle.sb_check.specs.declared.check.CheckStatus.TheVariants as status
use Rattle.sb_sound.specs.Outcomes.{IsOutcome}
use Rattle.sb_check.specs.Running.{Writes, CutShort, RunOf, WrongWords, status_by}
use Rattle.sb_check.specs.Sofar.{HasAccepted}
use Rattle.sb_check.specs.Texts.{accepted_line, refusal_line}

more_written : (script proof : ℕ) (text more : List ℕ) (old before now : Outside)
    → before ≡ moved_by (record nothing { script = script; proof = proof; answers = text }) old
    → now ≡ write_at Answers more before
    → now ≡ moved_by (record nothing { script = script; proof = proof; answers = text ++ more }) old
more_written script proof text more old before now b h =
    h ∙ (write_at-moves Answers more before ∙ (ap (moved_by (writing (Answers, more))) b
    ∙ (moved_by-both (record nothing { script = script; proof = proof; answers = text }) (writing (Answers, more)) old
    ∙ ap₂ (λ x y. moved_by (record nothing { script = x; proof = y; answers = text ++ more }) old) (omega arith)
    (omega arith))))

-- the text of another outcome, if it is the text so far and more
pub writes_on : (limit : ℕ) (script proof : List ℕ) (outcome other : Outcome) (text more whole : List ℕ)
    (old before now : Outside)
    → Writes limit script proof outcome text old before → IsOutcome script proof other
    → now ≡ write_at Answers more before → text ++ more ≡ whole → Writes limit script proof other whole old now
writes_on limit script proof outcome other text more whole old before now w is h same = record {
  is = is;
  script_read = w.script_read;
  proof_read = w.proof_read;
  script_within = w.script_within;
  proof_within = w.proof_within;
  moved = more_written w.script_read w.proof_read text more old before now w.moved h
      ∙ ap (λ t. moved_by (record nothing { script = w.script_read; proof = w.proof_read; answers = t }) old) same;
}

-- a front of it, if it is the text so far and a front of more
pub writes_front : (limit : ℕ) (script proof : List ℕ) (outcome other : Outcome) (text more : List ℕ) (out : ℕ)
    (old before now : Outside) → Writes limit script proof outcome text old before → IsOutcome script proof other
    → now ≡ write_at Answers (take out more) before → answer other ≡ text ++ more → CutShort limit script proof old now
writes_front limit script proof outcome other text more out old before now w is h same = (
  other,
  length text + out,
  writes_on limit script proof outcome other text (take out more) (take (length text + out) (answer other)) old before
      now w is h
      (sym (take-append-add text more out) ∙ ap (take (length text + out)) (sym same)),
)

-- the verdicts of an outcome are written, which is a front of its text
pub writes_verdicts : (limit : ℕ) (script proof : List ℕ) (outcome : Outcome) (text line : List ℕ) (old now : Outside)
    → Writes limit script proof outcome text old now → answer outcome ≡ text ++ line
    → CutShort limit script proof old now
writes_verdicts limit script proof outcome text line old now w same = (
  outcome,
  length text,
  record {
    is = w.is;
    script_read = w.script_read;
    proof_read = w.proof_read;
    script_within = w.script_within;
    proof_within = w.proof_within;
    moved = w.moved ∙ ap (λ t. moved_by (record nothing {
      script = w.script_read;
      proof = w.proof_read;
      answers = t;
    }) old) (sym (take-append_seam text line) ∙ ap (take (length text)) (sym same));
  },
)

-- The last line is written, or less than all of it.
abbrev pub IsWritten : Result (Unit {0}) WorldError → List ℕ → Outside → Outside → Type 0
IsWritten r line before now = OnOk r (now ≡ write_at Answers line before)
    × OnErr r ((out : ℕ) × (out < length line) × (now ≡ write_at Answers (take out line) before))

pub accepted_written : (r : Result (Unit {0}) WorldError) (limit : ℕ) (script proof : List ℕ) (old before now : Outside)
    → IsWritten r accepted_line before now → HasAccepted limit script proof old before
    → RunOf (status_by r status.Accepted) limit script proof old now
accepted_written (Ok _) limit script proof old before now h has = (
  has.0,
  writes_on limit script proof (accepted has.0) (accepted has.0) (verdict_lines 1 has.0) accepted_line
      (answer (accepted has.0)) old before now has.1 has.1.is h.0 refl,
  has.2,
  has.3,
)
accepted_written (Err Failed) limit script proof old before now h has =
    writes_front limit script proof (accepted has.0) (accepted has.0) (verdict_lines 1 has.0) accepted_line h.1.0 old
    before now has.1 has.1.is h.1.2 refl
accepted_written (Err NoMemory) limit script proof old before now h has =
    writes_front limit script proof (accepted has.0) (accepted has.0) (verdict_lines 1 has.0) accepted_line h.1.0 old
    before now has.1 has.1.is h.1.2 refl

pub refusal_written : (r : Result (Unit {0}) WorldError) (limit : ℕ) (script proof : List ℕ) (n : ℕ) (refusal : Refusal)
    (old before now : Outside) → IsWritten r (refusal_line n refusal) before now
    → ((said : List Said) × Writes limit script proof (refused said n refusal) (verdict_lines 1 said) old before)
    → RunOf (status_by r status.Refused) limit script proof old now
refusal_written (Ok _) limit script proof n refusal old before now h has = (
  has.0,
  n,
  refusal,
  writes_on limit script proof (refused has.0 n refusal) (refused has.0 n refusal) (verdict_lines 1 has.0)
      (refusal_line n refusal) (answer (refused has.0 n refusal)) old before now has.1 has.1.is h.0 refl,
)
refusal_written (Err Failed) limit script proof n refusal old before now h has =
    writes_front limit script proof (refused has.0 n refusal) (refused has.0 n refusal) (verdict_lines 1 has.0)
    (refusal_line n refusal) h.1.0 old before now has.1 has.1.is h.1.2 refl
refusal_written (Err NoMemory) limit script proof n refusal old before now h has =
    writes_front limit script proof (refused has.0 n refusal) (refused has.0 n refusal) (verdict_lines 1 has.0)
    (refusal_line n refusal) h.1.0 old before now has.1 has.1.is h.1.2 refl

-- The text on words that are not taken is written, or less than all of it.
pub words_refused : (r : Result (Unit {0}) WorldError) (text : List ℕ) (before now : Outside)
    → OnOk r (now ≡ write_at Faults text before)
    → OnErr r ((out : ℕ) × (out < length text) × (now ≡ write_at Faults (take out text) before))
    → WrongWords (status_by r status.Usage) before now
words_refused (Ok _) text before now ok err = (text, ok ∙ write_at-moves Faults text before)
words_refused (Err Failed) text before now ok err =
    (text, (err.0, err.1, err.2 ∙ write_at-moves Faults (take err.0 text) before))
words_refused (Err NoMemory) text before now ok err =
    inr (text, (err.0, err.1, err.2 ∙ write_at-moves Faults (take err.0 text) before))
