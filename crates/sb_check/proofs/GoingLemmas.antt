-- An entry that was gone through, with its lines of the proof: a run has come so much further.
use Rattle.std.proofs.Common.{◌≡◌, ℕ, ◌+◌, List, [], ◌∷◌, ◌++◌, length, drop, Option, Some, None, inr, refl, sym, ap, subst, ◌∙◌, append_assoc, arith, length-append, length-drop}
use Rattle.std.proofs.lemmas.List.{append-nil}
use Rattle.sb_world.specs.Outside.{Outside, write_at}
use Rattle.sb_world.specs.Moved.{moved_by, writing}
use Rattle.sb_world.specs.declared.OutPort.TheVariants as out_port
use Rattle.sb_reader.specs.Entries.{Entry}
use Rattle.sb_script.specs.State.{State, start}
use Rattle.sb_script.specs.Replies.{step_of}
use Rattle.sb_rulebook.specs.Lines.{Said}
use Rattle.sb_rulebook.specs.Reading.{LineText, texts_of}
use Rattle.sb_rulebook.specs.Judging.{Event, Progress, beginning}
use Rattle.sb_rulebook.specs.JudgingTexts.{along, along_all}
use Rattle.sb_rulebook.specs.Accepted.{events_of, state_behind, events, verdict_lines}
use Rattle.sb_stack.specs.Stacked.{state_of}
use Rattle.sb_input.specs.TakingLines as lines
use Rattle.sb_check.specs.declared.checker.Checker.{Checker}
use Rattle.sb_check.specs.declared.checker.Checked.{Checked}
use Rattle.sb_check.specs.declared.checker.Checked.TheVariants as checked
use Rattle.sb_check.specs.Going.{Goes, LeadsTo, said_by}
use Rattle.sb_proof.specs.declared.line.Said as code
use Rattle.sb_proof.specs.Lines.{said_in}
use Rattle.sb_check.specs.declared.check.Run.{Run}
use Rattle.sb_sound.specs.Outcomes.{behind}
use Rattle.sb_sound.proofs.CallerLemmas.{whole_both}
use Rattle.sb_check.specs.Texts.{verdict_line}
use Rattle.sb_check.specs.Sofar.{Sofar, FindsEntry, GoesOn, HasEnded}
use Rattle.sb_check.proofs.EntryFacts.{behind-more, events-more, verdict_lines-more}
use Rattle.sb_check.proofs.RunFacts.{events_in_order, run_goes, script_begins, exit_bounds}
use Rattle.sb_check.proofs.MoveLemmas.{same_gone, reads_proof, writes_answer, writes_nothing, writes_text, script_left_behind_proof, script_left_behind_answer, proof_left_behind_answer}

-- the events of the entry where the run stands, and the state behind it

abbrev pub events_in : Entry → Run → List Event
events_in entry run = let s = state_of run.checker.judge.stack in events_of (step_of entry s) s

abbrev pub behind_in : Entry → Run → Option State
behind_in entry run = let s = state_of run.checker.judge.stack in state_behind (step_of entry s) s

-- what becomes of the proof with the entry, whatever comes behind it
pub goes_to_entry : (entry : Entry) (limit : ℕ) (script proof : List ℕ) (run : Run) (old now : Outside)
    (sofar : FindsEntry entry limit script proof run old now) (es : List Event)
    → along_all beginning (events start (sofar.list ++ entry ∷ []) ++ es) (texts_of proof)
    ≡ along_all sofar.progress (events_in entry run ++ es) (texts_of (run.lines.kept ++ sofar.proof_left))
goes_to_entry entry limit script proof run old now sofar es =
    ap (λ (fs : List Event). along_all beginning (fs ++ es) (texts_of proof))
    (events-more start (state_of run.checker.judge.stack) sofar.list entry sofar.state)
    ∙ ap (λ (fs : List Event). along_all beginning fs (texts_of proof))
    (append_assoc (events start sofar.list) (events_in entry run) es)
    ∙ run_goes (Some (state_of run.checker.judge.stack)) (entry ∷ []) limit script proof run old now sofar
    (events_in entry run ++ es)

-- the run behind the entry: its verdict is written, if it has one
goes_further : (at : Option State) (entry : Entry) (limit : ℕ) (script proof : List ℕ) (run : Run) (checker : Checker)
    (new_lines : lines.LinesState) (next : ℕ) (said : List Said) (old now between after : Outside)
    → behind_in entry run ≡ at
    → Goes said (events_in entry run) run.checker.judge checker.judge run.lines new_lines now between
    → after ≡ moved_by (writing (out_port.Answers, verdict_lines run.next_check said)) between
    → next ≡ run.next_check + length said
    → FindsEntry entry limit script proof run old now
    → Sofar at [] limit script proof (record run { checker = checker; lines = new_lines; next_check = next }) old after
goes_further at entry limit script proof run checker new_lines next said old now between after leads goes written
    counted sofar =
    let came = goes.came sofar.progress sofar.proof_left sofar.rests sofar.proof_is in
    let before = events start sofar.list in
    let own = events_in entry run in
    let within = goes.reads.within (omega (arith, sofar.lines_limit, sofar.proof_within)) in
    let text : verdict_lines 1 came.progress.said
    ≡ verdict_lines 1 sofar.progress.said ++ verdict_lines run.next_check said =
    ap (verdict_lines 1) came.said_is
    ∙ (verdict_lines-more 1 sofar.progress.said said
    ∙ ap (λ (k : ℕ). verdict_lines 1 sofar.progress.said ++ verdict_lines k said)
    (omega (arith, sofar.next))) in
    record {
      entries_limit = sofar.entries_limit;
      lines_limit = goes.reads.limit ∙ sofar.lines_limit;
      list = sofar.list ++ entry ∷ [];
      all = sofar.all;
      all_is = sofar.all_is ∙ sym (append-nil (sofar.list ++ entry ∷ []));
      state = behind-more start (state_of run.checker.judge.stack) sofar.list entry sofar.state ∙ leads;
      bytes = sofar.bytes;
      rest = sofar.rest;
      begins = sofar.begins;
      shorter = sofar.shorter;
      script_left = sofar.script_left;
      script_is = record {
        told =
            script_left_behind_answer (verdict_lines run.next_check said) sofar.script_left between after written
            (script_left_behind_proof goes.count sofar.script_left now between goes.reads.moved sofar.script_is.told);
        none = sofar.script_is.none;
      };
      script_split = sofar.script_split;
      script_read = sofar.script_read;
      script_within = sofar.script_within;
      script_below = sofar.script_below;
      front = sofar.front ++ came.front;
      whole = whole_both sofar.front came.front sofar.whole came.whole;
      proof_left = drop goes.count sofar.proof_left;
      proof_is = record {
        told =
            proof_left_behind_answer (verdict_lines run.next_check said) (drop goes.count sofar.proof_left) between
            after written came.left_is.told;
        none = came.left_is.none;
      };
      proof_split = sofar.proof_split ∙ ap (λ (xs : List ℕ). sofar.front ++ xs) came.split
          ∙ sym (append_assoc sofar.front came.front (new_lines.kept ++ drop goes.count sofar.proof_left));
      proof_read =
          omega (arith, goes.reads.read, came.within, sofar.proof_read, length-drop goes.count sofar.proof_left);
      proof_within = omega (arith, goes.reads.limit, sofar.lines_limit, within);
      progress = came.progress;
      rests = came.rests;
      goes = λ more.
          let texts = texts_of ((sofar.front ++ came.front) ++ more) in
          ap (λ (es : List Event). along beginning es texts)
          (events-more start (state_of run.checker.judge.stack) sofar.list entry sofar.state)
          ∙ events_in_order beginning before own texts
          ∙ ap (λ (bytes : List ℕ). let r = along beginning before (texts_of bytes) in along r.0 own r.1)
          (append_assoc sofar.front came.front more)
          ∙ ap (λ (r : Progress × List LineText). along r.0 own r.1) (sofar.goes (came.front ++ more))
          ∙ came.goes more;
      next =
          omega (arith, counted, sofar.next, ap length came.said_is, length-append sofar.progress.said said);
      moved = same_gone run.entries.read run.entries.read (run.lines.read + goes.count) new_lines.read
          (verdict_lines 1 sofar.progress.said ++ verdict_lines run.next_check said)
          (verdict_lines 1 came.progress.said) old after refl (sym goes.reads.read) (sym text)
          (writes_answer run.entries.read (run.lines.read + goes.count) (verdict_lines 1 sofar.progress.said)
          (verdict_lines run.next_check said) old between after
          (reads_proof run.entries.read run.lines.read goes.count (verdict_lines 1 sofar.progress.said) old now between
          sofar.moved goes.reads.moved) written);
    }

-- an entry that is no check
pub entry_goes : (c : Checked) (entry : Entry) (run : Run) (checker : Checker) (new_lines : lines.LinesState)
    (now after : Outside) → c ≡ checked.Goes → LeadsTo c (behind_in entry run) (state_of checker.judge.stack)
    → Goes (said_by c) (events_in entry run) run.checker.judge checker.judge run.lines new_lines now after
    → (limit : ℕ) (script proof : List ℕ) (old : Outside) → FindsEntry entry limit script proof run old now
    → GoesOn limit script proof (record run { checker = checker; lines = new_lines }) old after
entry_goes c entry run checker new_lines now after is leads goes limit script proof old sofar =
    goes_further (Some (state_of checker.judge.stack)) entry limit script proof run checker new_lines run.next_check []
    old now after after (rw is at leads) (rw is at goes) (writes_nothing after) (omega arith) sofar

-- no state stands behind the entries, so the script has ended
ends_here : (limit : ℕ) (script proof : List ℕ) (run : Run) (old now : Outside)
    → Sofar None [] limit script proof run old now → HasEnded limit script proof run old now
ends_here limit script proof run old now sofar =
    let all = script_begins None [] limit script proof run old now sofar in
    let last = ap (behind start) (sofar.all_is ∙ append-nil sofar.list) ∙ sofar.state in (
      None,
      sofar,
      record { rest = all.0; begins = all.1; last = inr last },
      exit_bounds None [] limit script proof run old now sofar last,
    )

-- one with which the script ends
pub entry_ends : (c : Checked) (entry : Entry) (run : Run) (checker : Checker) (new_lines : lines.LinesState)
    (now after : Outside) → c ≡ checked.Ends → LeadsTo c (behind_in entry run) (state_of checker.judge.stack)
    → Goes (said_by c) (events_in entry run) run.checker.judge checker.judge run.lines new_lines now after
    → (limit : ℕ) (script proof : List ℕ) (old : Outside) → FindsEntry entry limit script proof run old now
    → HasEnded limit script proof (record run { checker = checker; lines = new_lines }) old after
entry_ends c entry run checker new_lines now after is leads goes limit script proof old sofar =
    ends_here limit script proof (record run { checker = checker; lines = new_lines }) old after
    (goes_further None entry limit script proof run checker new_lines run.next_check [] old now after after
    (rw is at leads) (rw is at goes) (writes_nothing after) (omega arith) sofar)

-- a check, whose verdict is written
pub entry_said : (c : Checked) (said : code.Said) (entry : Entry) (run wrote : Run) (checker : Checker)
    (new_lines : lines.LinesState) (now between after : Outside) → c ≡ checked.Said said
    → LeadsTo c (behind_in entry run) (state_of checker.judge.stack)
    → Goes (said_by c) (events_in entry run) run.checker.judge checker.judge run.lines new_lines now between
    → wrote ≡ record run { checker = checker; lines = new_lines; next_check = run.next_check + 1 }
    → after ≡ write_at out_port.Answers (verdict_line run.next_check (said_in said)) between
    → (limit : ℕ) (script proof : List ℕ) (old : Outside) → FindsEntry entry limit script proof run old now
    → GoesOn limit script proof wrote old after
entry_said c said entry run wrote checker new_lines now between after is leads goes same written limit script proof
    old sofar =
    subst (λ (r : Run). GoesOn limit script proof r old after) (sym same)
    (goes_further (Some (state_of checker.judge.stack)) entry limit script proof run checker new_lines
    (run.next_check + 1) (said_in said ∷ []) old now between after (rw is at leads) (rw is at goes)
    (writes_text (verdict_line run.next_check (said_in said)) (verdict_lines run.next_check (said_in said ∷ [])) between
    after (sym (append-nil (verdict_line run.next_check (said_in said)))) written) (omega arith) sofar)
