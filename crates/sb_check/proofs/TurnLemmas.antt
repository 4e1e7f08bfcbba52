-- What comes next in the script: an entry, its end, or more than may be read of it.
use Rattle.std.proofs.Common.{◌≡◌, ℕ, ◌+◌, ◌<◌, ◌≤◌, Bool, true, false, List, [], ◌∷◌, ◌++◌, length, take, drop, Some, Result, Ok, Err, IfOk, IfErr, inl, refl, sym, ap, subst, ◌∙◌, arith, append_assoc, length-append}
use Rattle.std.proofs.lemmas.List.{append-nil, take-append-drop, length-take-le}
use Rattle.sb_world.specs.Outside.{Outside}
use Rattle.sb_reader.specs.declared.feed.Next.{Next}
use Rattle.sb_reader.specs.declared.feed.Next.TheVariants as next
use Rattle.sb_reader.specs.declared.feed.Ending.{Ending}
use Rattle.sb_reader.specs.Entries.{Entry, Begins, HoldsNoEntry}
use Rattle.sb_reader.specs.Feeding.{ShortensTo}
use Rattle.sb_reader.proofs.CallerLemmas.{beginning_grows}
use Rattle.sb_rulebook.specs.Reading.{texts_of}
use Rattle.sb_rulebook.specs.Accepted.{verdict_lines}
use Rattle.sb_stack.specs.Stacked.{state_of}
use Rattle.sb_stack.specs.Steps.{IsEntry, entry_of}
use Rattle.sb_input.specs.TakingEntries as entries
use Rattle.sb_input.specs.TakingEntries.{Advances, TakesEntry, Finds, IsCutShort}
use Rattle.sb_check.specs.declared.checker.CheckerFault.{CheckerFault}
use Rattle.sb_check.specs.declared.checker.CheckerFault.TheVariants as fault
use Rattle.sb_check.specs.declared.check.Run.{Run}
use Rattle.sb_check.specs.Sofar.{Sofar, FindsEntry, GoesOn, HasEnded, Turns, Stops, is_cut}
use Rattle.sb_check.proofs.RunFacts.{begins_on, run_along}
use Rattle.sb_check.proofs.MoveLemmas.{reads_script, same_gone, proof_left_behind_script}
use Rattle.sb_check.proofs.StopLemmas.{cut_at, past_in_script, stops_cut}

takes_entry : (ended : Bool) (n : Next) (rest behind : List ℕ) → IsEntry n → Finds ended n rest behind
    → TakesEntry ended (entry_of n) rest behind
takes_entry ended (next.Command form) rest behind is h = h
takes_entry ended (next.Refused refusal) rest behind is h = h
takes_entry ended next.NotYet rest behind is h = absurd is
takes_entry ended (next.Ended ending) rest behind is h = absurd is

-- So much more of the script was read.
module _ (limit : ℕ) (script proof : List ℕ) (run : Run) (new : entries.EntriesState) (old now after : Outside)
    (count : ℕ)
    (reads : entries.ReadsOn count run.entries new now after) (sofar : GoesOn limit script proof run old now) where
  abbrev newly : List ℕ
  newly = take count sofar.script_left

  -- the entries that were gone through begin what was read
  all_begin : Begins new.kept.1 (sofar.bytes ++ newly) sofar.list (sofar.rest ++ newly)
  all_begin =
      begins_on run.entries.kept.1 new.kept.1 sofar.bytes newly sofar.rest sofar.list (λ e. (reads.ended e).1)
      (λ e. ap (λ (n : ℕ). take n sofar.script_left) (reads.ended e).0)
      (subst (λ (es : List Entry). Begins run.entries.kept.1 sofar.bytes es sofar.rest)
      (sofar.all_is ∙ append-nil sofar.list) sofar.begins)

  script_is : script ≡ (sofar.bytes ++ newly) ++ drop count sofar.script_left
  script_is =
      sofar.script_split
      ∙ ap (λ (xs : List ℕ). sofar.bytes ++ xs) (sym (take-append-drop count sofar.script_left))
      ∙ sym (append_assoc sofar.bytes newly (drop count sofar.script_left))

  bytes_read : count ≤ length sofar.script_left → length (sofar.bytes ++ newly) ≡ new.read
  bytes_read within =
      omega (
        arith,
        within,
        reads.read,
        sofar.script_read,
        length-append sofar.bytes newly,
        length-take-le count sofar.script_left within,
      )

  read_within : new.read ≤ limit
  read_within = omega (arith, reads.within, reads.limit, sofar.entries_limit)

  -- this entry is found next, or none
  reads_on : (taken : List Entry) (rest : List ℕ) → (new.kept.1 ≡ true → new.read < new.limit)
      → entries.IsLeft new after (drop count sofar.script_left) → count ≤ length sofar.script_left
      → Begins new.kept.1 (sofar.bytes ++ newly) (sofar.list ++ taken) rest → ShortensTo rest new.kept.0
      → Sofar (Some (state_of run.checker.judge.stack)) taken limit script proof (record run { entries = new }) old
      after
  reads_on taken rest below left within begins shorter = record {
    entries_limit = reads.limit ∙ sofar.entries_limit;
    lines_limit = sofar.lines_limit;
    list = sofar.list;
    all = sofar.list ++ taken;
    all_is = refl;
    state = sofar.state;
    bytes = sofar.bytes ++ newly;
    rest = rest;
    begins = begins;
    shorter = shorter;
    script_left = drop count sofar.script_left;
    script_is = left;
    script_split = script_is;
    script_read = bytes_read within;
    script_within = read_within;
    script_below = λ e. omega (arith, below e, reads.limit, sofar.entries_limit);
    front = sofar.front;
    whole = sofar.whole;
    proof_left = sofar.proof_left;
    proof_is = record {
      told = proof_left_behind_script count sofar.proof_left now after reads.moved sofar.proof_is.told;
      none = sofar.proof_is.none;
    };
    proof_split = sofar.proof_split;
    proof_read = sofar.proof_read;
    proof_within = sofar.proof_within;
    progress = sofar.progress;
    rests = sofar.rests;
    goes = sofar.goes;
    next = sofar.next;
    moved = same_gone (run.entries.read + count) new.read run.lines.read run.lines.read
        (verdict_lines 1 sofar.progress.said) (verdict_lines 1 sofar.progress.said) old after (sym reads.read) refl refl
        (reads_script run.entries.read run.lines.read count (verdict_lines 1 sofar.progress.said) old now after
        sofar.moved reads.moved);
  }

  -- all of the script was read, and no entry stands behind those that were gone through
  reads_end : (new.kept.1 ≡ true → new.read < new.limit)
      → entries.IsLeft new after (drop count sofar.script_left) → count ≤ length sofar.script_left
      → new.kept.1 ≡ true → HoldsNoEntry true (sofar.rest ++ newly) → ShortensTo (sofar.rest ++ newly) new.kept.0
      → HasEnded limit script proof (record run { entries = new }) old after
  unfolding reads_on
  reads_end below left within ended none shorter =
      let begins = subst (λ (es : List Entry). Begins new.kept.1 (sofar.bytes ++ newly) es (sofar.rest ++ newly))
      (sym (append-nil sofar.list)) all_begin in
      let whole : script ≡ sofar.bytes ++ newly =
      script_is ∙ ap (λ (xs : List ℕ). (sofar.bytes ++ newly) ++ xs) (left.none ended)
      ∙ append-nil (sofar.bytes ++ newly) in (
        Some (state_of run.checker.judge.stack),
        reads_on [] (sofar.rest ++ newly) below left within begins shorter,
        record {
          rest = sofar.rest ++ newly;
          begins = subst (λ (xs : List ℕ). Begins true xs (sofar.list ++ []) (sofar.rest ++ newly)) (sym whole)
              (subst (λ (b : Bool). Begins b (sofar.bytes ++ newly) (sofar.list ++ []) (sofar.rest ++ newly)) ended
              begins);
          last = inl none;
        },
        inl (omega (
          arith,
          ap length whole,
          bytes_read within,
          below ended,
          reads.limit,
          sofar.entries_limit,
        )),
      )

  -- no more of the script may be read
  reads_to_limit : count ≤ length sofar.script_left → new.kept.1 ≡ false → new.read ≡ new.limit
      → HoldsNoEntry false (sofar.rest ++ newly) → Stops fault.Limit limit script proof old after
  reads_to_limit within goes_on at_limit none =
      let read : run.entries.read + count ≡ limit =
      omega (arith, at_limit, reads.read, reads.limit, sofar.entries_limit) in
      past_in_script (Some (state_of run.checker.judge.stack)) [] limit script proof run old now sofar
      (run.entries.read + count) after read
      (reads_script run.entries.read run.lines.read count (verdict_lines 1 sofar.progress.said) old now after
      sofar.moved reads.moved)
      (record {
        front = sofar.bytes ++ newly;
        more = drop count sofar.script_left;
        split = script_is;
        at_limit = omega (arith, bytes_read within, at_limit, reads.limit, sofar.entries_limit);
        entries = sofar.list;
        left = sofar.rest ++ newly;
        begins = subst (λ (b : Bool). Begins b (sofar.bytes ++ newly) sofar.list (sofar.rest ++ newly)) goes_on
            all_begin;
        none = none;
        after = state_of run.checker.judge.stack;
        no_exit = sofar.state;
        progress = sofar.progress;
        lines = texts_of (run.lines.kept ++ sofar.proof_left);
        goes = run_along (Some (state_of run.checker.judge.stack)) [] limit script proof run old now sofar;
        rests = sofar.rests.is;
        said_is = refl;
      })

-- an entry is found
pub finds_entry : (n : Next) (run : Run) (new : entries.EntriesState) (now after : Outside) → IsEntry n
    → Advances n run.entries new now after
    → (limit : ℕ) (script proof : List ℕ) (old : Outside) → GoesOn limit script proof run old now
    → FindsEntry (entry_of n) limit script proof (record run { entries = new }) old after
finds_entry n run new now after is h limit script proof old sofar =
    let found = h.finds sofar.script_left sofar.rest sofar.script_is sofar.shorter in
    let next = found.1.1 in
    let bytes = sofar.bytes ++ take h.count sofar.script_left in
    let takes = takes_entry new.kept.1 n (sofar.rest ++ take h.count sofar.script_left) next.0 is next.1 in
    reads_on limit script proof run new old now after h.count h.reads sofar (entry_of n ∷ []) next.0 h.below found.0
    found.1.0
    (beginning_grows new.kept.1 bytes sofar.list (entry_of n) takes.0 next.0
    (subst (λ (xs : List ℕ). Begins new.kept.1 bytes sofar.list xs) takes.1
    (all_begin limit script proof run new old now after h.count h.reads sofar))
    takes.2) next.2

-- the script has ended, where no entry stands behind those that were gone through
end_found : (ending : Ending) (run : Run) (new : entries.EntriesState) (now after : Outside)
    → Advances (next.Ended ending) run.entries new now after
    → (limit : ℕ) (script proof : List ℕ) (old : Outside) → GoesOn limit script proof run old now
    → HasEnded limit script proof (record run { entries = new }) old after
end_found ending run new now after h limit script proof old sofar =
    let found = h.finds sofar.script_left sofar.rest sofar.script_is sofar.shorter in
    let next = found.1.1 in
    reads_end limit script proof run new old now after h.count h.reads sofar h.below found.0 found.1.0 h.leaves
    next.1.1.0 (subst (λ (xs : List ℕ). ShortensTo xs new.kept.0) next.1.0 next.2)

pub finds_end : (n : Next) (ending : Ending) (run : Run) (new : entries.EntriesState) (now after : Outside)
    → n ≡ next.Ended ending → Advances n run.entries new now after
    → (limit : ℕ) (script proof : List ℕ) (old : Outside) → GoesOn limit script proof run old now
    → HasEnded limit script proof (record run { entries = new }) old after
finds_end n ending run new now after is h = end_found ending run new now after (rw is at h)

-- more than may be read of the script
past_limit : (run : Run) (new : entries.EntriesState) (now after : Outside)
    → Advances next.NotYet run.entries new now after
    → (limit : ℕ) (script proof : List ℕ) (old : Outside) → GoesOn limit script proof run old now
    → Stops fault.Limit limit script proof old after
past_limit run new now after h limit script proof old sofar =
    let found = h.finds sofar.script_left sofar.rest sofar.script_is sofar.shorter in
    reads_to_limit limit script proof run new old now after h.count h.reads sofar found.1.0 h.leaves.0 h.leaves.1
    found.1.1.1.1

pub finds_limit : (n : Next) (run : Run) (new : entries.EntriesState) (now after : Outside) → n ≡ next.NotYet
    → Advances n run.entries new now after
    → (limit : ℕ) (script proof : List ℕ) (old : Outside) → GoesOn limit script proof run old now
    → Stops fault.Limit limit script proof old after
finds_limit n run new now after is h = past_limit run new now after (rw is at h)

-- the script could not be read on
pub finds_none : (f : CheckerFault) (run : Run) (now after : Outside)
    → is_cut f × IsCutShort run.entries now after
    → (limit : ℕ) (script proof : List ℕ) (old : Outside) → GoesOn limit script proof run old now
    → Stops f limit script proof old after
finds_none f run now after h limit script proof old sofar =
    let cut = h.1 in
    stops_cut f limit script proof old after h.0
    (cut_at (Some (state_of run.checker.judge.stack)) [] limit script proof run old now sofar
    (run.entries.read + cut.count) run.lines.read after (omega (arith, cut.within, sofar.entries_limit))
    sofar.proof_within
    (reads_script run.entries.read run.lines.read cut.count (verdict_lines 1 sofar.progress.said) old now after
    sofar.moved cut.moved))

-- the error of what was called is the answer
pub stops_by : {T : Type 0} (r : Result T CheckerFault) (e f : CheckerFault) (run : Run) (now after : Outside)
    → r ≡ Err e → e ≡ f
    → ((limit : ℕ) (script proof : List ℕ) (old : Outside) → GoesOn limit script proof run old now
    → Stops f limit script proof old after)
    → IfErr r (λ fault. (limit : ℕ) (script proof : List ℕ) (old : Outside) → GoesOn limit script proof run old now
    → Stops fault limit script proof old after)
stops_by r e f run now after is same h = rw (is, same) h

-- a further entry is gone through behind the one that was found

pub turn_goes : (r : Result Bool CheckerFault) (n : Next) (run after : Run) (new : entries.EntriesState)
    (now between then : Outside) → IsEntry n → Advances n run.entries new now between
    → IfOk r (λ more. (limit : ℕ) (script proof : List ℕ) (old : Outside)
    → FindsEntry (entry_of n) limit script proof (record run { entries = new }) old between
    → Turns more limit script proof after old then)
    → IfOk r (λ more. (limit : ℕ) (script proof : List ℕ) (old : Outside) → GoesOn limit script proof run old now
    → Turns more limit script proof after old then)
turn_goes (Ok more) n run after new now between then is h goes = λ limit script proof old sofar.
    goes limit script proof old (finds_entry n run new now between is h limit script proof old sofar)
turn_goes (Err f) n run after new now between then is h goes = tt

pub turn_stops : (r : Result Bool CheckerFault) (n : Next) (run : Run) (new : entries.EntriesState)
    (now between then : Outside) → IsEntry n → Advances n run.entries new now between
    → IfErr r (λ fault. (limit : ℕ) (script proof : List ℕ) (old : Outside)
    → FindsEntry (entry_of n) limit script proof (record run { entries = new }) old between
    → Stops fault limit script proof old then)
    → IfErr r (λ fault. (limit : ℕ) (script proof : List ℕ) (old : Outside) → GoesOn limit script proof run old now
    → Stops fault limit script proof old then)
turn_stops (Ok more) n run new now between then is h stops = tt
turn_stops (Err f) n run new now between then is h stops = λ limit script proof old sofar.
    stops limit script proof old (finds_entry n run new now between is h limit script proof old sofar)
