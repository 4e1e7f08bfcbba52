-- Lines that are taken where the end is due, and nothing behind them.
use Rattle.std.proofs.Common.{◌≡◌, ℕ, ◌+◌, Bool, true, false, List, [], ◌∷◌, ◌++◌, length, drop, Result, Ok, Err, IfErr, OnOk, refl, sym, ap, ◌∙◌, subst, arith, append_assoc, length-append, length-drop}
use Rattle.sb_world.specs.Outside.{Outside}
use Rattle.sb_rulebook.specs.Lines as lines
use Rattle.sb_rulebook.specs.Refusals.{missing_line}
use Rattle.sb_rulebook.specs.LineLaws.{is_one_line}
use Rattle.sb_rulebook.specs.Reading.{LineText, texts_of}
use Rattle.sb_rulebook.specs.Judging.{Phase, at_rest, at_end, behind_end, Progress, accepted, refused, outcome_of, closed}
use Rattle.sb_rulebook.specs.JudgingTexts.{takes_lines, takes, takes_all}
use Rattle.sb_input.specs.declared.lines.Found.{Found}
use Rattle.sb_input.specs.declared.lines.Found.TheVariants.{Line, End, Limit}
use Rattle.sb_input.specs.declared.lines.LinesFault.{LinesFault}
use Rattle.sb_input.specs.declared.lines.LinesFault.TheVariants as lines_fault
use Rattle.sb_input.specs.TakingLines.{LinesState, Advances, IsCutShort}
use Rattle.sb_sound.proofs.CallerLemmas.{whole_none, whole_both}
use Rattle.sb_check.specs.declared.judge.Judge.{Judge}
use Rattle.sb_check.specs.declared.reason.JudgeFault.{JudgeFault}
use Rattle.sb_check.specs.declared.reason.JudgeFault.TheVariants as judge_fault
use Rattle.sb_check.specs.declared.reason.TakeFault.{TakeFault}
use Rattle.sb_check.specs.declared.reason.TakeFault.TheVariants as take_fault
use Rattle.sb_check.specs.declared.reason.Reason.TheVariants as reason
use Rattle.sb_check.specs.Reasons.{reason_in}
use Rattle.sb_check.specs.Standing.{IsAt, IsNotTaken, IsRefusal, TookLast, behind_line}
use Rattle.sb_check.specs.declared.checker.CheckerFault.{CheckerFault}
use Rattle.sb_check.specs.declared.checker.CheckerFault.TheVariants as fault
use Rattle.sb_check.specs.Running.{is_at_end}
use Rattle.sb_check.specs.Going.{Fails, Finishes, IsRefusedAtEnd, WaitsAtEnd, fault_of_judge, fault_of_take, fault_of_lines}
use Rattle.sb_check.specs.Through.{CameLast, GoesLast, WaitsLast, StopsLast, IsBehindEnd}
use Rattle.sb_check.proofs.LineFacts.{with_feed, line_whole, line_in_front, line_split}
use Rattle.sb_check.proofs.ThroughFacts.{end_due, missing_at_end, accepted_behind_end, refused_at_end, never_unended}
use Rattle.sb_check.proofs.ReadingOn.{reads_nothing, reads_of, reads_more, reads_then, leaves_more, proof_of, proof_more, split_more, limit_met}

-- One line.

taken_true : (last : Bool) (j new : Judge) (text : List ℕ) (s t : LinesState) (o q : Outside)
    → Advances (Line true) s t o q → text ≡ t.line
    → ((p : Progress) → IsAt at_end j p → TookLast last new p.said (takes (text, true) p))
    → GoesLast last j new s t o q
taken_true last j new text s t o q a line took =
    let one : is_one_line text ≡ true = ap is_one_line line ∙ a.leaves.1.0 in
    record {
      count = a.count;
      reads = reads_of a.count s t o q a.reads;
      leaves = λ left l. (a.within left l, (a.finds left l).0);
      came = λ p left at l. record {
        front = with_feed text;
        whole = line_whole text one;
        split = line_split (s.kept ++ left) text t.line (t.kept ++ drop a.count left) line
            ((a.finds left l).1.1 refl);
        progress = takes (text, true) p;
        at = (took p at).0;
        said_is = (took p at).1;
        goes = λ more. ap (λ (texts : List LineText). takes_all texts p) (line_in_front text more one);
      };
    }

-- no line is taken that no line feed ends
never_took : (last : Bool) (j new : Judge) (text : List ℕ) (p : Progress) → IsAt at_end j p
    → TookLast last new p.said (takes (text, false) p) → ⊥
never_took true j new text p at took = never_unended behind_end text p (ap takes_lines at.is) refl took.0.is
never_took false j new text p at took = never_unended at_end text p (ap takes_lines at.is) refl took.0.is

pub last_taken : (last : Bool) (found : Found) (ended : Bool) (j new : Judge) (text : List ℕ) (s t : LinesState)
    (o q : Outside) → found ≡ Line ended → Advances found s t o q → text ≡ t.line
    → ((p : Progress) → IsAt at_end j p → TookLast last new p.said (takes (text, ended) p))
    → GoesLast last j new s t o q
last_taken last found true j new text s t o q is advances line took =
    taken_true last j new text s t o q (subst (λ (f : Found). Advances f s t o q) is advances) line took
last_taken last found false j new text s t o q is advances line took =
    let a = subst (λ (f : Found). Advances f s t o q) is advances in
    record {
      count = a.count;
      reads = reads_of a.count s t o q a.reads;
      leaves = λ left l. (a.within left l, (a.finds left l).0);
      came = λ p left at l. absurd (never_took last j new text p at (took p at));
    }

line_stops : (f : JudgeFault) (phase : Phase) (ended : Bool) (j : Judge) (text : List ℕ) (s t : LinesState)
    (o q : Outside) → Advances (Line ended) s t o q → text ≡ t.line
    → ((p : Progress) → IsAt phase j p → IsRefusal f p (takes (text, ended) p))
    → StopsLast (fault_of_judge f) phase j s t o q
line_stops (judge_fault.Refused n reason) phase ended j text s t o q a line refuses = (
  proof_of a.count s t o q a.reads,
  λ p left at l.
      let why = refuses p at in
      let rest = texts_of (t.kept ++ drop a.count left) in
      ap (λ (texts : List LineText). outcome_of (closed (takes_all texts p)))
      ((a.finds left l).1.0 ∙ ap (λ (x : List ℕ). (x, ended) ∷ rest) (sym line))
      ∙ refused_at_end (reason_in reason) p (text, ended) rest why.1
      ∙ ap (λ (m : ℕ). refused p.said m (reason_in reason)) (sym why.0),
)
line_stops judge_fault.NoMemory phase ended j text s t o q a line refuses = proof_of a.count s t o q a.reads

take_stops : (f : TakeFault) (ended : Bool) (j : Judge) (text : List ℕ) (s t : LinesState) (o q : Outside)
    → Advances (Line ended) s t o q → text ≡ t.line
    → ((p : Progress) → IsAt at_end j p → IsNotTaken f p (takes (text, ended) p))
    → StopsLast (fault_of_take f) at_end j s t o q
take_stops (take_fault.Judged f) ended j text s t o q a line refuses =
    line_stops f at_end ended j text s t o q a line refuses
take_stops take_fault.PastNumbers ended j text s t o q a line refuses = proof_of a.count s t o q a.reads

pub last_refused : {T : Type 0} (r : Result T CheckerFault) (e : CheckerFault) (f : TakeFault) (found : Found)
    (ended : Bool) (j : Judge) (text : List ℕ) (s t : LinesState) (o q : Outside) → r ≡ Err e → e ≡ fault_of_take f
    → found ≡ Line ended → Advances found s t o q → text ≡ t.line
    → ((p : Progress) → IsAt at_end j p → IsNotTaken f p (takes (text, ended) p))
    → IfErr r (λ fault. StopsLast fault at_end j s t o q)
last_refused r e f found ended j text s t o q err same is advances line refuses = rw (err, same)
    (take_stops f ended j text s t o q (subst (λ (f : Found). Advances f s t o q) is advances) line refuses)

pub behind_refused : (e : CheckerFault) (f : JudgeFault) (found : Found) (ended : Bool) (j : Judge) (text : List ℕ)
    (s t : LinesState) (o q : Outside) → e ≡ fault_of_judge f → found ≡ Line ended → Advances found s t o q
    → text ≡ t.line → ((p : Progress) → IsAt behind_end j p → IsRefusal f p (takes (text, ended) p))
    → StopsLast e behind_end j s t o q
behind_refused e f found ended j text s t o q same is advances line refuses = rw same
    (line_stops f behind_end ended j text s t o q (subst (λ (f : Found). Advances f s t o q) is advances) line refuses)

pub last_missing : (e : CheckerFault) (found : Found) (j : Judge) (s t : LinesState) (o q : Outside)
    → e ≡ fault.Refused j.next reason.MissingLine → found ≡ End → Advances found s t o q
    → StopsLast e at_end j s t o q
last_missing e found j s t o q missing is advances =
    let a = subst (λ (f : Found). Advances f s t o q) is advances in
    rw missing (
      proof_of a.count s t o q a.reads,
      λ p left at l.
          ap (λ (bytes : List ℕ). outcome_of (closed (takes_all (texts_of bytes) p))) (a.finds left l).1.0
          ∙ missing_at_end p at.is ∙ ap (λ (n : ℕ). refused p.said n missing_line) at.next,
    )

pub last_limit : (phase : Phase) (found : Found) (j : Judge) (s t : LinesState) (o q : Outside) → is_at_end phase ≡ true
    → found ≡ Limit → Advances found s t o q → StopsLast fault.Limit phase j s t o q
last_limit phase found j s t o q ends is advances =
    limit_met WaitsLast phase found j s t o q is advances (λ p at. (refl, ap is_at_end at ∙ ends))

cut_by : (f : LinesFault) (phase : Phase) (j : Judge) (s t : LinesState) (o q : Outside) → IsCutShort s t o q
    → StopsLast (fault_of_lines f) phase j s t o q
cut_by lines_fault.Fault phase j s t o q cut = proof_of cut.count s t o q cut.reads
cut_by lines_fault.NoMemory phase j s t o q cut = proof_of cut.count s t o q cut.reads

pub last_cut : {T : Type 0} (r : Result T CheckerFault) (e : CheckerFault) (f : LinesFault) (phase : Phase) (j : Judge)
    (s t : LinesState) (o q : Outside) → r ≡ Err e → e ≡ fault_of_lines f → IsCutShort s t o q
    → IfErr r (λ fault. StopsLast fault phase j s t o q)
last_cut r e f phase j s t o q err same cut = rw (err, same) (cut_by f phase j s t o q cut)

pub behind_ended : (found : Found) (s t : LinesState) (o q : Outside) → found ≡ End → Advances found s t o q
    → IsBehindEnd s t o q
behind_ended found s t o q is advances =
    let a = subst (λ (f : Found). Advances f s t o q) is advances in
    record {
      count = a.count;
      reads = a.reads;
      below = a.below a.leaves.0;
      within = a.within;
      nothing = λ left l. (a.finds left l).1.0;
    }

-- Lines one after another.

-- what was kept and left goes on from what was taken of it
last_on : (count : ℕ) (s t : LinesState) (left : List ℕ) (p : Progress) (j : Judge) (last : Bool)
    (came : CameLast count last s t left p j)
    → takes_all (texts_of (s.kept ++ left)) p ≡ takes_all (texts_of (t.kept ++ drop count left)) came.progress
last_on count s t left p j last came =
    ap (λ (bytes : List ℕ). takes_all (texts_of bytes) p) came.split ∙ came.goes (t.kept ++ drop count left)

pub last_none : (j : Judge) (s : LinesState) (o : Outside) → GoesLast false j j s s o o
last_none j s o = record {
  count = 0;
  reads = reads_nothing s o;
  leaves = λ left l. (omega arith, l);
  came = λ p left at l. record {
    front = [];
    whole = whole_none;
    split = refl;
    progress = p;
    at = at;
    said_is = refl;
    goes = λ more. refl;
  };
}

pub last_more : (last : Bool) (i j k : Judge) (s t u : LinesState) (o p q : Outside) → GoesLast false i j s t o p
    → GoesLast last j k t u p q → GoesLast last i k s u o q
last_more last i j k s t u o p q first second = record {
  count = first.count + second.count;
  reads = reads_more first.count second.count s t u o p q first.reads second.reads;
  leaves = leaves_more first.count second.count s t u o p q first.leaves second.leaves;
  came = λ progress left at l.
      let x = first.came progress left at l in
      let y = second.came x.progress (drop first.count left) x.at (first.leaves left l).1 in
      record {
        front = x.front ++ y.front;
        whole = whole_both x.front y.front x.whole y.whole;
        split = split_more first.count second.count (s.kept ++ left) x.front t.kept y.front u.kept left x.split
            y.split;
        progress = y.progress;
        at = y.at;
        said_is = y.said_is ∙ x.said_is;
        goes = λ more.
            ap (λ (bytes : List ℕ). takes_all (texts_of bytes) progress) (append_assoc x.front y.front more)
            ∙ x.goes (y.front ++ more) ∙ y.goes more;
      };
}

stops_behind : (f : CheckerFault) (last : Bool) (i j : Judge) (s t u : LinesState) (o p q : Outside)
    → GoesLast last i j s t o p → StopsLast f (behind_line last) j t u p q → StopsLast f at_end i s u o q
stops_behind (fault.Refused n reason) last i j s t u o p q first h = (
  proof_more first.count s t o p q first.reads h.0,
  λ progress left at l.
      let x = first.came progress left at l in
      ap (λ (after : Progress). outcome_of (closed after)) (last_on first.count s t left progress j last x)
      ∙ h.1 x.progress (drop first.count left) x.at (first.leaves left l).1
      ∙ ap (λ (said : List lines.Said). refused said n (reason_in reason)) x.said_is,
)
stops_behind fault.Limit last i j s t u o p q first h = record {
  count = first.count + h.count;
  reads = reads_then first.count h.count s t u o p q first.reads h.reads;
  at_limit = h.at_limit;
  part = h.part;
  came = λ progress left at l.
      let x = first.came progress left at l in
      let leaves = first.leaves left l in
      let y = h.came x.progress (drop first.count left) x.at leaves.1 in
      record {
        within = omega (arith, leaves.0, y.within, length-drop first.count left);
        front = x.front ++ y.front;
        whole = whole_both x.front y.front x.whole y.whole;
        split = split_more first.count h.count (s.kept ++ left) x.front t.kept y.front u.kept left x.split y.split;
        progress = y.progress;
        said_is = y.said_is ∙ x.said_is;
        takes = (x.goes y.front ∙ y.takes.0, y.takes.1);
      };
}
stops_behind fault.Fault last i j s t u o p q first h = proof_more first.count s t o p q first.reads h
stops_behind fault.NoMemory last i j s t u o p q first h = proof_more first.count s t o p q first.reads h
stops_behind fault.PastNumbers last i j s t u o p q first h = proof_more first.count s t o p q first.reads h

pub last_stops : {T : Type 0} (r : Result T CheckerFault) (e f : CheckerFault) (i j : Judge) (s t u : LinesState)
    (o p q : Outside) → r ≡ Err e → e ≡ f → GoesLast false i j s t o p → StopsLast f at_end j t u p q
    → IfErr r (λ fault. StopsLast fault at_end i s u o q)
last_stops r e f i j s t u o p q err same first h = rw (err, same) (stops_behind f false i j s t u o p q first h)

-- The end of the script.

at_the_end : (j : Judge) (p : Progress) → IsAt at_rest j p → IsAt at_end j (record p { phase = at_end })
at_the_end j p at = record {
  is = refl;
  begun = at.begun;
  next = at.next;
  others = at.others;
  format = at.format;
  kept = at.kept;
}

end_fails : (f : CheckerFault) (j : Judge) (s t : LinesState) (o q : Outside) → StopsLast f at_end j s t o q
    → Fails f IsRefusedAtEnd WaitsAtEnd j s t o q
end_fails (fault.Refused n reason) j s t o q h = (
  h.0,
  λ p left at l.
      ap (λ (after : Progress). outcome_of (closed after)) (end_due p (texts_of (s.kept ++ left)) at.is)
      ∙ h.1 (record p { phase = at_end }) left (at_the_end j p at) l,
)
end_fails fault.Limit j s t o q h = record {
  count = h.count;
  reads = h.reads;
  at_limit = h.at_limit;
  part = h.part;
  came = λ p left at l.
      let y = h.came (record p { phase = at_end }) left (at_the_end j p at) l in
      record {
        within = y.within;
        front = y.front;
        whole = y.whole;
        split = y.split;
        progress = y.progress;
        said_is = y.said_is;
        takes = (end_due p (texts_of y.front) at.is ∙ y.takes.0, y.takes.1);
      };
}
end_fails fault.Fault j s t o q h = h
end_fails fault.NoMemory j s t o q h = h
end_fails fault.PastNumbers j s t o q h = h

pub end_stops : {T : Type 0} (r : Result T CheckerFault) (e f : CheckerFault) (j : Judge) (s t : LinesState)
    (o q : Outside) → r ≡ Err e → e ≡ f → StopsLast f at_end j s t o q
    → IfErr r (λ fault. Fails fault IsRefusedAtEnd WaitsAtEnd j s t o q)
end_stops r e f j s t o q err same h = rw (err, same) (end_fails f j s t o q h)

pub behind_stops : (r : Result (Unit {0}) CheckerFault) (i j : Judge) (s t u : LinesState) (o p q : Outside)
    → GoesLast true i j s t o p → IfErr r (λ fault. StopsLast fault behind_end j t u p q)
    → IfErr r (λ fault. Fails fault IsRefusedAtEnd WaitsAtEnd i s u o q)
behind_stops (Ok x) i j s t u o p q first h = h
behind_stops (Err f) i j s t u o p q first h = end_fails f i s u o q (stops_behind f true i j s t u o p q first h)

end_accepts : (i j : Judge) (s t u : LinesState) (o p q : Outside) → GoesLast true i j s t o p
    → IsBehindEnd t u p q → Finishes i s u o q
end_accepts i j s t u o p q first behind = record {
  count = first.count + behind.count;
  reads = reads_then first.count behind.count s t u o p q first.reads behind.reads;
  below = behind.below;
  all = λ left l.
      let leaves = first.leaves left l in
      omega (
        arith,
        leaves.0,
        behind.within (drop first.count left) leaves.1,
        length-drop first.count left,
        length-append t.kept (drop first.count left),
        ap length (behind.nothing (drop first.count left) leaves.1),
      );
  accepts = λ progress left at l.
      let x = first.came (record progress { phase = at_end }) left (at_the_end i progress at) l in
      let nothing = behind.nothing (drop first.count left) (first.leaves left l).1 in
      ap (λ (after : Progress). outcome_of (closed after)) (end_due progress (texts_of (s.kept ++ left)) at.is
      ∙ last_on first.count s t left (record progress { phase = at_end }) j true x
      ∙ ap (λ (bytes : List ℕ). takes_all (texts_of bytes) x.progress) nothing)
      ∙ accepted_behind_end x.progress x.at.is ∙ ap accepted x.said_is;
}

pub end_accepted : (r : Result (Unit {0}) CheckerFault) (i j : Judge) (s t u : LinesState) (o p q : Outside)
    → GoesLast true i j s t o p → OnOk r (IsBehindEnd t u p q) → OnOk r (Finishes i s u o q)
end_accepted (Ok x) i j s t u o p q first behind = end_accepts i j s t u o p q first behind
end_accepted (Err f) i j s t u o p q first behind = behind
