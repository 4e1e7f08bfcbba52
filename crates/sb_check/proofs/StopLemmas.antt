-- Why a run stops at an entry: what was established by then, and what was written.
use Rattle.std.proofs.Common.{◌≡◌, ℕ, ◌+◌, ◌≤◌, true, List, [], ◌∷◌, ◌++◌, length, take, drop, Option, Some, Result, Err, IfErr, inl, inr, refl, sym, ap, subst, ◌∙◌, arith, append_assoc, length-append, length-drop}
use Rattle.std.proofs.lemmas.List.{append-nil}
use Rattle.std.proofs.Math.Seq.{take-length, take-append-add}
use Rattle.sb_world.specs.Outside.{Outside, write_at}
use Rattle.sb_world.specs.Moved.{moved_by, reading}
use Rattle.sb_world.specs.declared.InPort.TheVariants as in_port
use Rattle.sb_world.specs.declared.OutPort.TheVariants as out_port
use Rattle.sb_world.proofs.CallerLemmas.{write_at-moves}
use Rattle.sb_reader.specs.Entries.{Entry, Begins}
use Rattle.sb_script.specs.State.{State, start}
use Rattle.sb_rulebook.specs.Lines.{Said}
use Rattle.sb_rulebook.specs.Reading.{LineText, texts_of}
use Rattle.sb_rulebook.specs.Judging as judging
use Rattle.sb_rulebook.specs.Judging.{Event, at_rest, Progress, beginning, outcome_of, closed}
use Rattle.sb_rulebook.specs.JudgingTexts.{along, along_all}
use Rattle.sb_rulebook.specs.Accepted.{events, verdict_lines}
use Rattle.sb_stack.specs.Stacked.{state_of}
use Rattle.sb_input.specs.TakingLines as lines
use Rattle.sb_check.specs.declared.judge.Judge.{Judge}
use Rattle.sb_check.specs.declared.checker.CheckerFault.{CheckerFault}
use Rattle.sb_check.specs.declared.checker.CheckerFault.TheVariants as fault
use Rattle.sb_check.specs.declared.checker.Checked.{Checked}
use Rattle.sb_check.specs.declared.checker.Checked.TheVariants as checked
use Rattle.sb_proof.specs.declared.line.Said as code
use Rattle.sb_proof.specs.Lines.{said_in}
use Rattle.sb_check.specs.Going.{said_by, Goes, Fails, ReadsProof, Taking, IsRefusedAlong, WaitsAlong, CameToLimit, IsPast}
use Rattle.sb_check.specs.declared.check.Run.{Run}
use Rattle.sb_sound.specs.Outcomes.{GoesAlong}
use Rattle.sb_sound.proofs.CallerLemmas.{whole_both}
use Rattle.sb_check.specs.Running.{Writes, CutShort, AreTaken, IsPastScript, PastLimit}
use Rattle.sb_check.specs.Texts.{verdict_line}
use Rattle.sb_check.specs.Sofar.{Sofar, FindsEntry, Stops, is_cut}
use Rattle.sb_check.proofs.EntryFacts.{begins-front, events-more, verdict_lines-more}
use Rattle.sb_check.proofs.RunFacts.{events_in_order, came_goes, run_goes, script_begins}
use Rattle.sb_check.proofs.MoveLemmas.{gone, same_gone, reads_proof, writes_answer}
use Rattle.sb_check.proofs.GoingLemmas.{events_in, goes_to_entry}

module _ (at : Option State) (taken : List Entry) (limit : ℕ) (script proof : List ℕ) (run : Run) (old now : Outside)
    (sofar : Sofar at taken limit script proof run old now) where
  -- the proof goes along with the entries that were gone through
  goes_along : GoesAlong script proof sofar.progress.said
  goes_along =
      let all = script_begins at taken limit script proof run old now sofar in
      let front = begins-front true script sofar.list taken all.0
      (subst (λ (es : List Entry). Begins true script es all.0) sofar.all_is all.1) in
      record {
        entries = sofar.list;
        rest = front.0;
        begins = front.1;
        progress = sofar.progress;
        rests = sofar.rests.is;
        said_is = refl;
        left = texts_of (run.lines.kept ++ sofar.proof_left);
        goes = run_goes at taken limit script proof run old now sofar;
      }

  -- the verdicts so far are written, and no more
  pub cut_at : (a b : ℕ) (after : Outside) → a ≤ limit → b ≤ limit
      → after ≡ moved_by (gone a b (verdict_lines 1 sofar.progress.said)) old → CutShort limit script proof old after
  cut_at a b after script_within proof_within moved = (
    judging.goes_on sofar.progress.said,
    length (verdict_lines 1 sofar.progress.said),
    record {
      is = goes_along;
      script_read = a;
      proof_read = b;
      script_within = script_within;
      proof_within = proof_within;
      moved = same_gone a a b b (verdict_lines 1 sofar.progress.said)
          (take (length (verdict_lines 1 sofar.progress.said)) (verdict_lines 1 sofar.progress.said)) old after refl
          refl (sym (take-length (verdict_lines 1 sofar.progress.said))) moved;
    },
  )

  -- the same, as a text that is whole
  goes_at : (a b : ℕ) (after : Outside) → a ≤ limit → b ≤ limit
      → after ≡ moved_by (gone a b (verdict_lines 1 sofar.progress.said)) old
      → Writes limit script proof (judging.goes_on sofar.progress.said) (verdict_lines 1 sofar.progress.said) old after
  goes_at a b after script_within proof_within moved = record {
    is = goes_along;
    script_read = a;
    proof_read = b;
    script_within = script_within;
    proof_within = proof_within;
    moved = moved;
  }

  -- so many bytes of the script were read as the limit
  pub past_in_script : (a : ℕ) (after : Outside) → a ≡ limit
      → after ≡ moved_by (gone a run.lines.read (verdict_lines 1 sofar.progress.said)) old
      → IsPastScript limit script proof sofar.progress.said → PastLimit limit script proof old after
  unfolding goes_at
  past_in_script a after read moved past = record {
    said = sofar.progress.said;
    writes = goes_at a run.lines.read after (omega (arith, read)) sofar.proof_within moved;
    past = inl (read, past);
  }

  -- The proof was read on.

  pub proof_reads : (after : Outside) (reads : ReadsProof run.lines now after) → run.lines.read + reads.count ≤ limit
  proof_reads after reads =
      omega (arith, sofar.lines_limit, reads.within (omega (arith, sofar.lines_limit, sofar.proof_within)))

  pub proof_moves : (after : Outside) (count : ℕ) → after ≡ moved_by (reading in_port.Proof count) now
      → after ≡ moved_by (gone run.entries.read (run.lines.read + count) (verdict_lines 1 sofar.progress.said)) old
  proof_moves after count moved =
      reads_proof run.entries.read run.lines.read count (verdict_lines 1 sofar.progress.said) old now after sofar.moved
      moved

  pub cut_in_proof : (after : Outside) → ReadsProof run.lines now after → CutShort limit script proof old after
  cut_in_proof after reads =
      cut_at run.entries.read (run.lines.read + reads.count) after sofar.script_within (proof_reads after reads)
      (proof_moves after reads.count reads.moved)

  -- up to the limit, with these entries in front of the script, and more lines that are taken with them
  pub past_in_proof : (Takes : Taking) (new_lines : lines.LinesState) (after : Outside)
      (past : IsPast Takes at_rest run.checker.judge run.lines new_lines now after) (entries : List Entry)
      (rest : List ℕ) → Begins true script entries rest
      → ((y : CameToLimit Takes past.count run.lines new_lines sofar.proof_left sofar.progress)
      → AreTaken script entries (texts_of (sofar.front ++ y.front)) y.progress)
      → PastLimit limit script proof old after
  unfolding goes_at
  past_in_proof Takes new_lines after past entries rest begins take_all =
      let y = past.came sofar.progress sofar.proof_left sofar.rests sofar.proof_is in
      let all = sofar.proof_split ∙ ap (λ (xs : List ℕ). sofar.front ++ xs) y.split
      ∙ sym (append_assoc sofar.front y.front (new_lines.kept ++ drop past.count sofar.proof_left)) in
      let read : run.lines.read + past.count ≡ limit =
      omega (arith, past.reads.read, past.at_limit, past.reads.limit, sofar.lines_limit) in
      record {
        said = sofar.progress.said;
        writes = goes_at run.entries.read (run.lines.read + past.count) after sofar.script_within (omega (arith, read))
            (proof_moves after past.count past.reads.moved);
        past = inr (
          read,
          record {
            front = sofar.front ++ y.front;
            left = new_lines.kept;
            more = drop past.count sofar.proof_left;
            split = all;
            at_limit =
                omega (
                  arith,
                  read,
                  y.within,
                  sofar.proof_read,
                  ap length all,
                  length-append (sofar.front ++ y.front) (new_lines.kept ++ drop past.count sofar.proof_left),
                  length-append new_lines.kept (drop past.count sofar.proof_left),
                  length-drop past.count sofar.proof_left,
                );
            whole = whole_both sofar.front y.front sofar.whole y.whole;
            part = past.part;
            entries = entries;
            rest = rest;
            begins = begins;
            progress = y.progress;
            taken = take_all y;
            said_is = y.said_is;
          },
        );
      }

-- The proof is read up to the limit at an entry.
entry_past : (entry : Entry) (limit : ℕ) (script proof : List ℕ) (run : Run) (new_lines : lines.LinesState)
    (old now after : Outside)
    → IsPast (WaitsAlong (events_in entry run)) at_rest run.checker.judge run.lines new_lines now after
    → FindsEntry entry limit script proof run old now → PastLimit limit script proof old after
entry_past entry limit script proof run new_lines old now after past sofar =
    let at = Some (state_of run.checker.judge.stack) in
    let all = script_begins at (entry ∷ []) limit script proof run old now sofar in
    let before = events start sofar.list in
    let own = events_in entry run in
    past_in_proof at (entry ∷ []) limit script proof run old now sofar (WaitsAlong own) new_lines after past
    (sofar.list ++ entry ∷ []) all.0 (subst (λ (es : List Entry). Begins true script es all.0) sofar.all_is all.1)
    (λ y.
    let texts = texts_of (sofar.front ++ y.front) in
    inl (
      ap (λ (es : List Event). along beginning es texts)
          (events-more start (state_of run.checker.judge.stack) sofar.list entry sofar.state)
          ∙ events_in_order beginning before own texts
          ∙ ap (λ (r : Progress × List LineText). along r.0 own r.1) (sofar.goes y.front) ∙ y.takes.0,
      y.takes.1,
    ))

-- A line is refused, or could not be read, at the entry.
pub entry_stops : (f : CheckerFault) (entry : Entry) (run : Run) (new_lines : lines.LinesState) (now after : Outside)
    → Fails f (IsRefusedAlong (events_in entry run)) (WaitsAlong (events_in entry run)) run.checker.judge run.lines
    new_lines now after
    → (limit : ℕ) (script proof : List ℕ) (old : Outside) → FindsEntry entry limit script proof run old now
    → Stops f limit script proof old after
entry_stops (fault.Refused n reason) entry run new_lines now after fails limit script proof old sofar =
    let at = Some (state_of run.checker.judge.stack) in
    let all = script_begins at (entry ∷ []) limit script proof run old now sofar in (
      sofar.progress.said,
      record {
        is = inr (record {
          entries = sofar.all;
          rest = all.0;
          begins = all.1;
          refused = λ es.
              ap (λ (all : List Entry).
              outcome_of (closed (along_all beginning (events start all ++ es) (texts_of proof)))) sofar.all_is
              ∙ ap (λ (p : Progress). outcome_of (closed p))
              (goes_to_entry entry limit script proof run old now sofar es)
              ∙ fails.1 sofar.progress sofar.proof_left sofar.rests sofar.proof_is es;
        });
        script_read = run.entries.read;
        proof_read = run.lines.read + fails.0.count;
        script_within = sofar.script_within;
        proof_within = proof_reads at (entry ∷ []) limit script proof run old now sofar after fails.0;
        moved = proof_moves at (entry ∷ []) limit script proof run old now sofar after fails.0.count fails.0.moved;
      },
    )
entry_stops fault.Limit entry run new_lines now after fails limit script proof old sofar =
    entry_past entry limit script proof run new_lines old now after fails sofar
entry_stops fault.Fault entry run new_lines now after fails limit script proof old sofar =
    cut_in_proof (Some (state_of run.checker.judge.stack)) (entry ∷ []) limit script proof run old now sofar after fails
entry_stops fault.NoMemory entry run new_lines now after fails limit script proof old sofar =
    cut_in_proof (Some (state_of run.checker.judge.stack)) (entry ∷ []) limit script proof run old now sofar after fails
entry_stops fault.PastNumbers entry run new_lines now after fails limit script proof old sofar =
    cut_in_proof (Some (state_of run.checker.judge.stack)) (entry ∷ []) limit script proof run old now sofar after fails

-- the fault says no more than that the run was cut short
pub stops_cut : (f : CheckerFault) (limit : ℕ) (script proof : List ℕ) (old after : Outside) → is_cut f
    → CutShort limit script proof old after → Stops f limit script proof old after
stops_cut (fault.Refused n reason) limit script proof old after is cut = absurd is
stops_cut fault.Limit limit script proof old after is cut = absurd is
stops_cut fault.Fault limit script proof old after is cut = cut
stops_cut fault.NoMemory limit script proof old after is cut = cut
stops_cut fault.PastNumbers limit script proof old after is cut = cut

-- the verdict was not written, or not all of it
verdict_cut : (entry : Entry) (said : Said) (run : Run) (judge : Judge) (new_lines : lines.LinesState)
    (now between after : Outside)
    → Goes (said ∷ []) (events_in entry run) run.checker.judge judge run.lines new_lines now between
    → ((out : ℕ) × (after ≡ write_at out_port.Answers (take out (verdict_line run.next_check said)) between))
    → (limit : ℕ) (script proof : List ℕ) (old : Outside) → FindsEntry entry limit script proof run old now
    → CutShort limit script proof old after
verdict_cut entry said run judge new_lines now between after goes cut limit script proof old sofar =
    let at = Some (state_of run.checker.judge.stack) in
    let came = goes.came sofar.progress sofar.proof_left sofar.rests sofar.proof_is in
    let all = script_begins at (entry ∷ []) limit script proof run old now sofar in
    let before = verdict_lines 1 sofar.progress.said in
    let line = verdict_line run.next_check said in
    let text : verdict_lines 1 came.progress.said ≡ before ++ line =
    ap (verdict_lines 1) came.said_is
    ∙ (verdict_lines-more 1 sofar.progress.said (said ∷ [])
    ∙ (ap (λ (k : ℕ). before ++ verdict_lines k (said ∷ [])) (omega (arith, sofar.next))
    ∙ ap (λ (bytes : List ℕ). before ++ bytes) (append-nil line))) in (
      judging.goes_on came.progress.said,
      length before + cut.0,
      record {
        is = record {
          entries = sofar.list ++ entry ∷ [];
          rest = all.0;
          begins = subst (λ (es : List Entry). Begins true script es all.0) sofar.all_is all.1;
          progress = came.progress;
          rests = came.rests.is;
          said_is = refl;
          left = texts_of (new_lines.kept ++ drop goes.count sofar.proof_left);
          goes = λ es. goes_to_entry entry limit script proof run old now sofar es
              ∙ came_goes goes.count (said ∷ []) (events_in entry run) es run.lines new_lines between sofar.proof_left
              sofar.progress judge came;
        };
        script_read = run.entries.read;
        proof_read = run.lines.read + goes.count;
        script_within = sofar.script_within;
        proof_within =
            omega (
              arith,
              goes.reads.read,
              goes.reads.limit,
              sofar.lines_limit,
              goes.reads.within (omega (arith, sofar.lines_limit, sofar.proof_within)),
            );
        moved = same_gone run.entries.read run.entries.read (run.lines.read + goes.count) (run.lines.read + goes.count)
            (before ++ take cut.0 line) (take (length before + cut.0) (verdict_lines 1 came.progress.said)) old after
            refl refl
            (sym (ap (take (length before + cut.0)) text ∙ take-append-add before line cut.0))
            (writes_answer run.entries.read (run.lines.read + goes.count) before (take cut.0 line) old between after
            (proof_moves at (entry ∷ []) limit script proof run old now sofar between goes.count goes.reads.moved)
            (cut.1 ∙ write_at-moves out_port.Answers (take cut.0 line) between));
      },
    )

pub verdict_stops : (f : CheckerFault) (c : Checked) (said : code.Said) (entry : Entry) (run : Run) (judge : Judge)
    (new_lines : lines.LinesState) (now between after : Outside) → c ≡ checked.Said said
    → Goes (said_by c) (events_in entry run) run.checker.judge judge run.lines new_lines now between → is_cut f
    → ((out : ℕ) × (after ≡ write_at out_port.Answers (take out (verdict_line run.next_check (said_in said))) between))
    → (limit : ℕ) (script proof : List ℕ) (old : Outside) → FindsEntry entry limit script proof run old now
    → Stops f limit script proof old after
verdict_stops f c said entry run judge new_lines now between after is goes kind cut limit script proof old sofar =
    stops_cut f limit script proof old after kind
    (verdict_cut entry (said_in said) run judge new_lines now between after (rw is at goes) cut limit script proof old
    sofar)

-- the error of what was called is the answer
pub at_error : {T : Type 0} (r : Result T CheckerFault) (e f : CheckerFault) (entry : Entry) (run : Run)
    (now after : Outside) → r ≡ Err e → e ≡ f
    → ((limit : ℕ) (script proof : List ℕ) (old : Outside) → FindsEntry entry limit script proof run old now
    → Stops f limit script proof old after)
    → IfErr r (λ fault. (limit : ℕ) (script proof : List ℕ) (old : Outside)
    → FindsEntry entry limit script proof run old now → Stops fault limit script proof old after)
at_error r e f entry run now after is same h = rw (is, same) h
