-- Lines that are taken where a check waits, one and then all up to the verdict.
use Rattle.std.proofs.Common.{◌≡◌, ℕ, ◌+◌, Bool, true, false, List, [], ◌∷◌, ◌++◌, drop, Option, Some, None, Result, Err, IfErr, refl, sym, ap, ◌∙◌, subst, arith, append_assoc, length-drop}
use Rattle.std.proofs.lemmas.List.{append-nil}
use Rattle.sb_world.specs.Outside.{Outside}
use Rattle.sb_rulebook.specs.Lines as lines
use Rattle.sb_rulebook.specs.Refusals.{missing_line}
use Rattle.sb_rulebook.specs.LineLaws.{is_one_line}
use Rattle.sb_rulebook.specs.Reading.{LineText, texts_of}
use Rattle.sb_rulebook.specs.Judging.{Event, asks, Phase, at_rest, at_check, Progress, is_at_check, refused, outcome_of, closed}
use Rattle.sb_rulebook.specs.JudgingTexts.{takes_lines, takes, through, along, along_all}
use Rattle.sb_rulebook.specs.JudgingLaws.{RefusalIsFinal}
use Rattle.sb_script.specs.Steps.{Leaving}
use Rattle.sb_rulebook.specs.Accepted.{event_of_leaving}
use Rattle.sb_stack.specs.Stacked.{question_of}
use Rattle.sb_proof.specs.Lines.{said_in}
use Rattle.sb_proof.specs.declared.line.Said.{Said}
use Rattle.sb_input.specs.declared.lines.Found.{Found}
use Rattle.sb_input.specs.declared.lines.Found.TheVariants.{Line, End, Limit}
use Rattle.sb_input.specs.declared.lines.LinesFault.{LinesFault}
use Rattle.sb_input.specs.declared.lines.LinesFault.TheVariants as lines_fault
use Rattle.sb_input.specs.TakingLines.{LinesState, Advances, IsCutShort}
use Rattle.sb_sound.proofs.CallerLemmas.{whole_none, whole_both}
use Rattle.sb_rules.specs.Kept.{kept_in}
use Rattle.sb_check.specs.declared.judge.Judge.{Judge}
use Rattle.sb_check.specs.declared.reason.JudgeFault.{JudgeFault}
use Rattle.sb_check.specs.declared.reason.JudgeFault.TheVariants as judge_fault
use Rattle.sb_check.specs.declared.reason.TakeFault.{TakeFault}
use Rattle.sb_check.specs.declared.reason.TakeFault.TheVariants as take_fault
use Rattle.sb_check.specs.declared.reason.Reason.TheVariants as reason
use Rattle.sb_check.specs.Reasons.{reason_in}
use Rattle.sb_check.specs.Standing.{IsAt, IsNotTaken, IsRefusal, Took, waiting_in}
use Rattle.sb_check.specs.Entering.{behind}
use Rattle.sb_check.specs.declared.checker.CheckerFault.{CheckerFault}
use Rattle.sb_check.specs.declared.checker.CheckerFault.TheVariants as fault
use Rattle.sb_check.specs.Going.{Goes, Fails, IsRefusedAlong, WaitsAlong, fault_of_judge, fault_of_take, fault_of_lines}
use Rattle.sb_check.specs.Through.{goes_through, phase_behind, verdicts_of, CameThrough, GoesThrough, WaitsThrough, StopsThrough}
use Rattle.sb_check.proofs.LineFacts.{with_feed, line_whole, line_in_front, line_split}
use Rattle.sb_check.proofs.ThroughFacts.{none_due, line_due, leaving_due, said_at_leaving, asked_due, check_due, missing_at_check, refused_at_check, never_unended}
use Rattle.sb_check.proofs.ReadingOn.{reads_nothing, reads_of, reads_more, reads_then, leaves_more, proof_none, proof_of, proof_more, split_more, limit_met}

-- One line.

took_at : (said : Option Said) (j : Judge) (before : List lines.Said) (p : Progress) → Took said j before p
    → IsAt (phase_behind said j) j p
took_at None j before p h = h.0
took_at (Some one) j before p h = h.0

took_said : (said : Option Said) (j : Judge) (before : List lines.Said) (p : Progress) → Took said j before p
    → p.said ≡ before ++ verdicts_of said
took_said None j before p h = h.1 ∙ sym (append-nil before)
took_said (Some one) j before p h = h.1

taken_true : (said : Option Said) (j new : Judge) (text : List ℕ) (s t : LinesState) (o q : Outside)
    → Advances (Line true) s t o q → text ≡ t.line
    → ((p : Progress) → IsAt (waiting_in j.stack) j p → Took said new p.said (takes (text, true) p))
    → GoesThrough said j new s t o q
taken_true said j new text s t o q a line took =
    let one : is_one_line text ≡ true = ap is_one_line line ∙ a.leaves.1.0 in
    record {
      count = a.count;
      reads = reads_of a.count s t o q a.reads;
      leaves = λ left l. (a.within left l, (a.finds left l).0);
      came = λ p left at l. record {
        front = with_feed text;
        whole = line_whole text one;
        split = line_split (s.kept ++ left) text t.line (t.kept ++ drop a.count left) line
            ((a.finds left l).1.1 refl);
        progress = takes (text, true) p;
        at = took_at said new p.said (takes (text, true) p) (took p at);
        said_is = took_said said new p.said (takes (text, true) p) (took p at);
        goes = λ more. ap (through p) (line_in_front text more one)
            ∙ line_due (question_of j.stack) p (text, true) (texts_of more) at.is;
      };
    }

-- no verdict and no other line is taken that no line feed ends
never_took : (said : Option Said) (j new : Judge) (text : List ℕ) (p : Progress)
    → IsAt (waiting_in j.stack) j p → Took said new p.said (takes (text, false) p) → ⊥
never_took None j new text p at took =
    never_unended (waiting_in new.stack) text p (ap takes_lines at.is) refl took.0.is
never_took (Some one) j new text p at took = never_unended at_rest text p (ap takes_lines at.is) refl took.0.is

pub turn_taken : (said : Option Said) (found : Found) (ended : Bool) (j new : Judge) (text : List ℕ)
    (s t : LinesState) (o q : Outside) → found ≡ Line ended → Advances found s t o q → text ≡ t.line
    → ((p : Progress) → IsAt (waiting_in j.stack) j p → Took said new p.said (takes (text, ended) p))
    → GoesThrough said j new s t o q
turn_taken said found true j new text s t o q is advances line took =
    taken_true said j new text s t o q (subst (λ (f : Found). Advances f s t o q) is advances) line took
turn_taken said found false j new text s t o q is advances line took =
    let a = subst (λ (f : Found). Advances f s t o q) is advances in
    record {
      count = a.count;
      reads = reads_of a.count s t o q a.reads;
      leaves = λ left l. (a.within left l, (a.finds left l).0);
      came = λ p left at l. absurd (never_took said j new text p at (took p at));
    }

turn_stops : (f : JudgeFault) (ended : Bool) (j : Judge) (text : List ℕ) (s t : LinesState) (o q : Outside)
    → RefusalIsFinal → Advances (Line ended) s t o q → text ≡ t.line
    → ((p : Progress) → IsAt (waiting_in j.stack) j p → IsRefusal f p (takes (text, ended) p))
    → StopsThrough (fault_of_judge f) j s t o q
turn_stops (judge_fault.Refused n reason) ended j text s t o q final a line refuses = (
  proof_of a.count s t o q a.reads,
  λ p left at l es.
      let why = refuses p at in
      let rest = texts_of (t.kept ++ drop a.count left) in
      ap (λ (texts : List LineText). outcome_of (closed (goes_through p texts es)))
      ((a.finds left l).1.0 ∙ ap (λ (x : List ℕ). (x, ended) ∷ rest) (sym line))
      ∙ refused_at_check (question_of j.stack) (reason_in reason) p (text, ended) rest es final at.is
      why.1 ∙ ap (λ (m : ℕ). refused p.said m (reason_in reason)) (sym why.0),
)
turn_stops judge_fault.NoMemory ended j text s t o q final a line refuses = proof_of a.count s t o q a.reads

take_stops : (f : TakeFault) (ended : Bool) (j : Judge) (text : List ℕ) (s t : LinesState) (o q : Outside)
    → RefusalIsFinal → Advances (Line ended) s t o q → text ≡ t.line
    → ((p : Progress) → IsAt (waiting_in j.stack) j p → IsNotTaken f p (takes (text, ended) p))
    → StopsThrough (fault_of_take f) j s t o q
take_stops (take_fault.Judged f) ended j text s t o q final a line refuses =
    turn_stops f ended j text s t o q final a line refuses
take_stops take_fault.PastNumbers ended j text s t o q final a line refuses = proof_of a.count s t o q a.reads

pub turn_refused : {T : Type 0} (r : Result T CheckerFault) (e : CheckerFault) (f : TakeFault) (found : Found)
    (ended : Bool) (j : Judge) (text : List ℕ) (s t : LinesState) (o q : Outside) → r ≡ Err e → e ≡ fault_of_take f
    → RefusalIsFinal → found ≡ Line ended → Advances found s t o q → text ≡ t.line
    → ((p : Progress) → IsAt (waiting_in j.stack) j p → IsNotTaken f p (takes (text, ended) p))
    → IfErr r (λ fault. StopsThrough fault j s t o q)
turn_refused r e f found ended j text s t o q err same final is advances line refuses = rw (err, same)
    (take_stops f ended j text s t o q final (subst (λ (f : Found). Advances f s t o q) is advances) line refuses)

pub turn_ended : (e : CheckerFault) (found : Found) (j : Judge) (s t : LinesState) (o q : Outside)
    → e ≡ fault.Refused j.next reason.MissingLine → found ≡ End → Advances found s t o q → StopsThrough e j s t o q
turn_ended e found j s t o q missing is advances =
    let a = subst (λ (f : Found). Advances f s t o q) is advances in
    rw missing (
      proof_of a.count s t o q a.reads,
      λ p left at l es.
          ap (λ (bytes : List ℕ). outcome_of (closed (goes_through p (texts_of bytes) es))) (a.finds left l).1.0
          ∙ missing_at_check (question_of j.stack) p es at.is
          ∙ ap (λ (n : ℕ). refused p.said n missing_line) at.next,
    )

pub turn_limit : (found : Found) (j : Judge) (s t : LinesState) (o q : Outside) → found ≡ Limit
    → Advances found s t o q → StopsThrough fault.Limit j s t o q
turn_limit found j s t o q is advances =
    limit_met WaitsThrough (waiting_in j.stack) found j s t o q is advances
    (λ p at. (refl, ap is_at_check at))

cut_by : (f : LinesFault) (j : Judge) (s t : LinesState) (o q : Outside) → IsCutShort s t o q
    → StopsThrough (fault_of_lines f) j s t o q
cut_by lines_fault.Fault j s t o q cut = proof_of cut.count s t o q cut.reads
cut_by lines_fault.NoMemory j s t o q cut = proof_of cut.count s t o q cut.reads

pub turn_cut : {T : Type 0} (r : Result T CheckerFault) (e : CheckerFault) (f : LinesFault) (j : Judge)
    (s t : LinesState) (o q : Outside) → r ≡ Err e → e ≡ fault_of_lines f → IsCutShort s t o q
    → IfErr r (λ fault. StopsThrough fault j s t o q)
turn_cut r e f j s t o q err same cut = rw (err, same) (cut_by f j s t o q cut)

-- Lines one after another.

-- what was kept and left goes on from what was taken of it
through_on : (count : ℕ) (s t : LinesState) (left : List ℕ) (p : Progress) (j : Judge) (said : Option Said)
    (came : CameThrough count said s t left p j)
    → through p (texts_of (s.kept ++ left)) ≡ through came.progress (texts_of (t.kept ++ drop count left))
through_on count s t left p j said came =
    ap (λ (bytes : List ℕ). through p (texts_of bytes)) came.split ∙ came.goes (t.kept ++ drop count left)

pub through_none : (j : Judge) (s : LinesState) (o : Outside) → GoesThrough None j j s s o o
through_none j s o = record {
  count = 0;
  reads = reads_nothing s o;
  leaves = λ left l. (omega arith, l);
  came = λ p left at l. record {
    front = [];
    whole = whole_none;
    split = refl;
    progress = p;
    at = at;
    said_is = sym (append-nil p.said);
    goes = λ more. refl;
  };
}

pub through_more : (said : Option Said) (i j k : Judge) (s t u : LinesState) (o p q : Outside)
    → GoesThrough None i j s t o p → GoesThrough said j k t u p q → GoesThrough said i k s u o q
through_more said i j k s t u o p q first second = record {
  count = first.count + second.count;
  reads = reads_more first.count second.count s t u o p q first.reads second.reads;
  leaves = leaves_more first.count second.count s t u o p q first.leaves second.leaves;
  came = λ progress left at l.
      let x = first.came progress left at l in
      let y = second.came x.progress (drop first.count left) x.at (first.leaves left l).1 in
      record {
        front = x.front ++ y.front;
        whole = whole_both x.front y.front x.whole y.whole;
        split = split_more first.count second.count (s.kept ++ left) x.front t.kept y.front u.kept left x.split
            y.split;
        progress = y.progress;
        at = y.at;
        said_is = y.said_is ∙ ap (λ (said_so_far : List lines.Said). said_so_far ++ verdicts_of said)
            (x.said_is ∙ append-nil progress.said);
        goes = λ more.
            ap (λ (bytes : List ℕ). through progress (texts_of bytes)) (append_assoc x.front y.front more)
            ∙ x.goes (y.front ++ more) ∙ y.goes more;
      };
}

-- no verdict came
pub waits_on : (said : Option Said) (i j : Judge) (s t : LinesState) (o q : Outside)
    → ((one : Said) → said ≡ Some one → ⊥) → GoesThrough said i j s t o q → GoesThrough None i j s t o q
waits_on None i j s t o q none goes = goes
waits_on (Some one) i j s t o q none goes = absurd (none one refl)

stops_behind : (f : CheckerFault) (i j : Judge) (s t u : LinesState) (o p q : Outside)
    → GoesThrough None i j s t o p → StopsThrough f j t u p q → StopsThrough f i s u o q
stops_behind (fault.Refused n reason) i j s t u o p q first h = (
  proof_more first.count s t o p q first.reads h.0,
  λ progress left at l es.
      let x = first.came progress left at l in
      ap (λ (r : Progress × List LineText). outcome_of (closed (along_all r.0 es r.1)))
      (through_on first.count s t left progress j None x)
      ∙ h.1 x.progress (drop first.count left) x.at (first.leaves left l).1 es
      ∙ ap (λ (said : List lines.Said). refused said n (reason_in reason)) (x.said_is ∙ append-nil progress.said),
)
stops_behind fault.Limit i j s t u o p q first h = record {
  count = first.count + h.count;
  reads = reads_then first.count h.count s t u o p q first.reads h.reads;
  at_limit = h.at_limit;
  part = h.part;
  came = λ progress left at l.
      let x = first.came progress left at l in
      let leaves = first.leaves left l in
      let y = h.came x.progress (drop first.count left) x.at leaves.1 in
      record {
        within = omega (arith, leaves.0, y.within, length-drop first.count left);
        front = x.front ++ y.front;
        whole = whole_both x.front y.front x.whole y.whole;
        split = split_more first.count h.count (s.kept ++ left) x.front t.kept y.front u.kept left x.split y.split;
        progress = y.progress;
        said_is = y.said_is ∙ x.said_is ∙ append-nil progress.said;
        takes = (x.goes y.front ∙ y.takes.0, y.takes.1);
      };
}
stops_behind fault.Fault i j s t u o p q first h = proof_more first.count s t o p q first.reads h
stops_behind fault.NoMemory i j s t u o p q first h = proof_more first.count s t o p q first.reads h
stops_behind fault.PastNumbers i j s t u o p q first h = proof_more first.count s t o p q first.reads h

pub verdict_stops : {T : Type 0} (r : Result T CheckerFault) (e f : CheckerFault) (i j : Judge) (s t u : LinesState)
    (o p q : Outside) → r ≡ Err e → e ≡ f → GoesThrough None i j s t o p → StopsThrough f j t u p q
    → IfErr r (λ fault. StopsThrough fault i s u o q)
verdict_stops r e f i j s t u o p q err same first h = rw (err, same) (stops_behind f i j s t u o p q first h)

-- An entry of the script.

-- only the script's state is another one
at_entered : (phase : Phase) (old new : Judge) (p : Progress) → new ≡ record old { stack = new.stack }
    → IsAt at_rest old p → IsAt phase new (record p { phase = phase })
at_entered phase old new p same at = record {
  is = refl;
  begun = at.begun ∙ sym (ap (λ (j : Judge). j.begun) same);
  next = at.next ∙ sym (ap (λ (j : Judge). j.next) same);
  others = at.others;
  format = at.format;
  kept = at.kept ∙ sym (ap (λ (j : Judge). kept_in j.kept at.others) same);
}

at_rest_still : (old new : Judge) (p : Progress) → new ≡ record old { stack = new.stack } → IsAt at_rest old p
    → IsAt at_rest new p
at_rest_still old new p same at = record {
  is = at.is;
  begun = at.begun ∙ sym (ap (λ (j : Judge). j.begun) same);
  next = at.next ∙ sym (ap (λ (j : Judge). j.next) same);
  others = at.others;
  format = at.format;
  kept = at.kept ∙ sym (ap (λ (j : Judge). kept_in j.kept at.others) same);
}

pub entry_goes : (old new : Judge) (s : LinesState) (o : Outside) (es : List Event) → es ≡ []
    → new ≡ record old { stack = new.stack } → Goes [] es old new s s o o
entry_goes old new s o es none same = record {
  count = 0;
  reads = reads_nothing s o;
  came = λ p left at l. record {
    within = omega arith;
    left_is = l;
    front = [];
    whole = whole_none;
    split = refl;
    progress = p;
    rests = at_rest_still old new p same at;
    said_is = sym (append-nil p.said);
    goes = λ more. ap (λ (events : List Event). along p events (texts_of more)) none;
  };
}

pub entry_left : (old new : Judge) (s : LinesState) (o : Outside) (es : List Event) (what : Leaving)
    → es ≡ event_of_leaving what ∷ [] → ((p : Progress) → IsAt at_rest old p → IsAt at_rest new (behind es p))
    → Goes [] es old new s s o o
entry_left old new s o es what one comes = record {
  count = 0;
  reads = reads_nothing s o;
  came = λ p left at l. record {
    within = omega arith;
    left_is = l;
    front = [];
    whole = whole_none;
    split = refl;
    progress = behind es p;
    rests = comes p at;
    said_is = ap (λ (events : List Event). (behind events p).said) one
        ∙ said_at_leaving what p at.is ∙ sym (append-nil p.said);
    goes = λ more.
        let texts = texts_of more in
        ap (λ (events : List Event). along p events texts) one
        ∙ leaving_due what p texts at.is
        ∙ ap (λ (after : Progress). (after, texts)) (ap (λ (events : List Event). behind events p) (sym one));
  };
}

pub entry_said : (said : Said) (old mid new : Judge) (s t : LinesState) (o q : Outside) (es : List Event)
    → es ≡ asks (question_of mid.stack) ∷ [] → mid ≡ record old { stack = mid.stack }
    → GoesThrough (Some said) mid new s t o q → Goes (said_in said ∷ []) es old new s t o q
entry_said said old mid new s t o q es one same goes = record {
  count = goes.count;
  reads = goes.reads;
  came = λ p left at l.
      let question = question_of mid.stack in
      let leaves = goes.leaves left l in
      let x = goes.came (record p { phase = at_check question }) left
      (at_entered (at_check question) old mid p same at) l in
      record {
        within = leaves.0;
        left_is = leaves.1;
        front = x.front;
        whole = x.whole;
        split = x.split;
        progress = x.progress;
        rests = x.at;
        said_is = x.said_is;
        goes = λ more. ap (λ (events : List Event). along p events (texts_of (x.front ++ more))) one
            ∙ asked_due question p (texts_of (x.front ++ more)) at.is ∙ x.goes more
            ∙ none_due at_rest x.progress (texts_of more) refl x.at.is;
      };
}

entry_fails : (f : CheckerFault) (old mid : Judge) (s t : LinesState) (o q : Outside) (es : List Event)
    → es ≡ asks (question_of mid.stack) ∷ [] → mid ≡ record old { stack = mid.stack }
    → StopsThrough f mid s t o q → Fails f (IsRefusedAlong es) (WaitsAlong es) old s t o q
entry_fails (fault.Refused n reason) old mid s t o q es one same h = (
  h.0,
  λ p left at l fs.
      let question = question_of mid.stack in
      let texts = texts_of (s.kept ++ left) in
      ap (λ (events : List Event). outcome_of (closed (along_all p (events ++ fs) texts))) one
      ∙ ap (λ (after : Progress). outcome_of (closed after)) (check_due question p fs texts at.is)
      ∙ h.1 (record p { phase = at_check question }) left (at_entered (at_check question) old mid p same at) l fs,
)
entry_fails fault.Limit old mid s t o q es one same h = record {
  count = h.count;
  reads = h.reads;
  at_limit = h.at_limit;
  part = h.part;
  came = λ p left at l.
      let question = question_of mid.stack in
      let y = h.came (record p { phase = at_check question }) left (at_entered (at_check question) old mid p same at) l
      in
      record {
        within = y.within;
        front = y.front;
        whole = y.whole;
        split = y.split;
        progress = y.progress;
        said_is = y.said_is;
        takes = (
          ap (λ (events : List Event). along p events (texts_of y.front)) one
              ∙ asked_due question p (texts_of y.front) at.is ∙ y.takes.0,
          y.takes.1,
        );
      };
}
entry_fails fault.Fault old mid s t o q es one same h = h
entry_fails fault.NoMemory old mid s t o q es one same h = h
entry_fails fault.PastNumbers old mid s t o q es one same h = h

pub entry_stops : {T : Type 0} (r : Result T CheckerFault) (e f : CheckerFault) (old mid : Judge) (s t : LinesState)
    (o q : Outside) (es : List Event) → r ≡ Err e → e ≡ f
    → es ≡ asks (question_of mid.stack) ∷ [] → mid ≡ record old { stack = mid.stack }
    → StopsThrough f mid s t o q → IfErr r (λ fault. Fails fault (IsRefusedAlong es) (WaitsAlong es) old s t o q)
entry_stops r e f old mid s t o q es err same one kept h =
    rw (err, same) (entry_fails f old mid s t o q es one kept h)

pub entry_wants_memory : {T : Type 0} (r : Result T CheckerFault) (e : CheckerFault) (old : Judge) (s : LinesState)
    (o : Outside) (es : List Event) → r ≡ Err e → e ≡ fault.NoMemory
    → IfErr r (λ fault. Fails fault (IsRefusedAlong es) (WaitsAlong es) old s s o o)
entry_wants_memory r e old s o es err same = rw (err, same) (proof_none s o)
