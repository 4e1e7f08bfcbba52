-- The end of a run: all lines were taken, or a last one is refused.
use Rattle.std.proofs.Common.{◌≡◌, ℕ, ◌+◌, List, [], ◌++◌, Option, Result, Ok, Err, IfErr, OnOk, inl, inr, sym, ap, ◌∙◌, arith}
use Rattle.std.proofs.lemmas.List.{append-nil}
use Rattle.sb_world.specs.Outside.{Outside}
use Rattle.sb_reader.specs.Entries.{Entry}
use Rattle.sb_script.specs.State.{State, start}
use Rattle.sb_rulebook.specs.Reading.{texts_of}
use Rattle.sb_rulebook.specs.Judging.{Event, at_rest, Progress, beginning, outcome_of, closed}
use Rattle.sb_rulebook.specs.JudgingTexts.{along_all, judged}
use Rattle.sb_rulebook.specs.Accepted.{events, verdict_lines}
use Rattle.sb_input.specs.TakingLines as lines
use Rattle.sb_check.specs.declared.checker.CheckerFault.{CheckerFault}
use Rattle.sb_check.specs.declared.checker.CheckerFault.TheVariants as fault
use Rattle.sb_check.specs.Going.{Finishes, Fails, IsRefusedAtEnd, WaitsAtEnd, IsPast}
use Rattle.sb_check.specs.declared.check.Run.{Run}
use Rattle.sb_check.specs.Running.{PastLimit}
use Rattle.sb_check.specs.Sofar.{Sofar, HasEnded, HasAccepted, Stops}
use Rattle.sb_check.proofs.MoveLemmas.{reads_proof}
use Rattle.sb_check.proofs.RunFacts.{goes_behind, run_goes}
use Rattle.sb_check.proofs.StopLemmas.{cut_in_proof, past_in_proof, proof_moves, proof_reads}

-- what becomes of the proof is what becomes of what is left of it
judged_from : (at : Option State) (limit : ℕ) (script proof : List ℕ) (run : Run) (old now : Outside)
    (sofar : Sofar at [] limit script proof run old now)
    → judged (events start sofar.all) proof
    ≡ outcome_of (closed (along_all sofar.progress [] (texts_of (run.lines.kept ++ sofar.proof_left))))
judged_from at limit script proof run old now sofar =
    ap (λ (es : List Entry). judged (events start es) proof) (sofar.all_is ∙ append-nil sofar.list)
    ∙ ap (λ (fs : List Event). judged fs proof) (sym (append-nil (events start sofar.list)))
    ∙ ap (λ (p : Progress). outcome_of (closed p)) (run_goes at [] limit script proof run old now sofar [])

-- the proof is accepted
pub run_finishes : (run : Run) (new_lines : lines.LinesState) (now after : Outside)
    → Finishes run.checker.judge run.lines new_lines now after
    → (limit : ℕ) (script proof : List ℕ) (old : Outside) → HasEnded limit script proof run old now
    → HasAccepted limit script proof old after
run_finishes run new_lines now after h limit script proof old ended =
    let sofar = ended.1 in (
      sofar.progress.said,
      record {
        is = record {
          entries = sofar.all;
          all = ended.2;
          judged = judged_from ended.0 limit script proof run old now sofar
              ∙ h.accepts sofar.progress sofar.proof_left sofar.rests sofar.proof_is;
        };
        script_read = run.entries.read;
        proof_read = run.lines.read + h.count;
        script_within = sofar.script_within;
        proof_within = omega (arith, h.reads.read, h.reads.limit, h.below, sofar.lines_limit);
        moved = reads_proof run.entries.read run.lines.read h.count (verdict_lines 1 sofar.progress.said) old now after
            sofar.moved h.reads.moved;
      },
      ended.3,
      omega (
        arith,
        h.all sofar.proof_left sofar.proof_is,
        sofar.proof_read,
        h.reads.read,
        h.reads.limit,
        h.below,
        sofar.lines_limit,
      ),
    )

-- the proof is read up to the limit where the script has ended
end_past : (limit : ℕ) (script proof : List ℕ) (run : Run) (new_lines : lines.LinesState) (old now after : Outside)
    → IsPast WaitsAtEnd at_rest run.checker.judge run.lines new_lines now after
    → HasEnded limit script proof run old now → PastLimit limit script proof old after
end_past limit script proof run new_lines old now after past ended =
    let sofar = ended.1 in
    let before = events start sofar.list in
    past_in_proof ended.0 [] limit script proof run old now sofar WaitsAtEnd new_lines after past sofar.all ended.2.rest
    ended.2.begins
    (λ y.
    let texts = texts_of (sofar.front ++ y.front) in
    inr (
      ap (λ (es : List Entry). along_all beginning (events start es) texts) (sofar.all_is ∙ append-nil sofar.list)
          ∙ ap (λ (fs : List Event). along_all beginning fs texts) (sym (append-nil before))
          ∙ goes_behind beginning sofar.progress before [] texts (texts_of y.front) (sofar.goes y.front)
          ∙ y.takes.0,
      y.takes.1,
      ended.2,
    ))

-- or it is not
pub run_stops : (f : CheckerFault) (run : Run) (new_lines : lines.LinesState) (now after : Outside)
    → Fails f IsRefusedAtEnd WaitsAtEnd run.checker.judge run.lines new_lines now after
    → (limit : ℕ) (script proof : List ℕ) (old : Outside) → HasEnded limit script proof run old now
    → Stops f limit script proof old after
run_stops (fault.Refused n reason) run new_lines now after fails limit script proof old ended =
    let sofar = ended.1 in (
      sofar.progress.said,
      record {
        is = inl (record {
          entries = sofar.all;
          all = ended.2;
          judged = judged_from ended.0 limit script proof run old now sofar
              ∙ fails.1 sofar.progress sofar.proof_left sofar.rests sofar.proof_is;
        });
        script_read = run.entries.read;
        proof_read = run.lines.read + fails.0.count;
        script_within = sofar.script_within;
        proof_within = proof_reads ended.0 [] limit script proof run old now sofar after fails.0;
        moved = proof_moves ended.0 [] limit script proof run old now sofar after fails.0.count fails.0.moved;
      },
    )
run_stops fault.Limit run new_lines now after fails limit script proof old ended =
    end_past limit script proof run new_lines old now after fails ended
run_stops fault.Fault run new_lines now after fails limit script proof old ended =
    cut_in_proof ended.0 [] limit script proof run old now ended.1 after fails
run_stops fault.NoMemory run new_lines now after fails limit script proof old ended =
    cut_in_proof ended.0 [] limit script proof run old now ended.1 after fails
run_stops fault.PastNumbers run new_lines now after fails limit script proof old ended =
    cut_in_proof ended.0 [] limit script proof run old now ended.1 after fails

-- by the answer of what was called

pub finish_goes : {T : Type 0} (r : Result T CheckerFault) (run : Run) (new_lines : lines.LinesState)
    (now after : Outside) → OnOk r (Finishes run.checker.judge run.lines new_lines now after)
    → OnOk r ((limit : ℕ) (script proof : List ℕ) (old : Outside) → HasEnded limit script proof run old now
    → HasAccepted limit script proof old after)
finish_goes (Ok done) run new_lines now after h = run_finishes run new_lines now after h
finish_goes (Err f) run new_lines now after h = tt

pub finish_stops : {T : Type 0} (r : Result T CheckerFault) (run : Run) (new_lines : lines.LinesState)
    (now after : Outside)
    → IfErr r (λ fault. Fails fault IsRefusedAtEnd WaitsAtEnd run.checker.judge run.lines new_lines now after)
    → IfErr r (λ fault. (limit : ℕ) (script proof : List ℕ) (old : Outside) → HasEnded limit script proof run old now
    → Stops fault limit script proof old after)
finish_stops (Ok done) run new_lines now after h = tt
finish_stops (Err f) run new_lines now after h = run_stops f run new_lines now after h
