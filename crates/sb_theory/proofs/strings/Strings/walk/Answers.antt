use Rattle.sb_theory.proofs.Words.{subst, ◌∙◌, IfOk-from_err, CountsTapeFault, counts_on, err_from_is_err_and}
use Rattle.sb_trace.proofs.CallerLemmas.{spent_both}
use Rattle.sb_theory.specs.Walks.{IsWalked, pieces_at}
use Rattle.sb_theory.specs.declared.strings.walking.Walked.{Walked}
use Rattle.sb_theory.proofs.Going.{walking_end, walking_none, walking_on}
use Rattle.sb_theory.proofs.Moving.{grows_both}
use Rattle.sb_theory.proofs.strings.Strings.walk.Goals as goal

pub loop-walked-init : goal.loop-walked-init
loop-walked-init g c =
    walking_none c.args.budget.now (g.L.Tape.told c.args.tape.now) (g.L.Tape.faults c.args.tape.now) c.args.wrong
    c.requires.stands c.requires.wrong c.requires.whole c.requires.settled

pub go-requires : goal.go-requires
go-requires g c =
    let h = c.loop-walked.invariant in
    record { stands = h.sofar.stands; whole = h.whole; settled = h.settled; wrong = h.wrong }

pub returns-in_err-walked : goal.returns-in_err-walked
returns-in_err-walked g c =
    let r = c.from_residual in
    let p = err_from_is_err_and r.result r.ensures.1 in
    let h = c.loop-walked.invariant in
    let e = c.in_err-walked.ensures in record {
      ok = IfOk-from_err r.result _ r.ensures.0;
      grows = grows_both h.grows e.grows;
      steps = spent_both c.args.budget.now c.loop-walked.budget c.go.new.budget h.steps e.steps;
      counts = subst (λ n. CountsTapeFault r.result n (g.L.Tape.faults c.go.new.tape)) h.same
          (counts_on Walked r.result p.0 _ _ _ p.1 p.2 e.counts);
    }

pub loop-walked-smaller : goal.loop-walked-smaller
loop-walked-smaller g c =
    (subst (λ (came : Walked). IsWalked c.loop-walked.self c.go.new.self c.args.trail.now.literals
    (pieces_at c.loop-walked.self c.loop-walked.at.atom) c.loop-walked.budget c.go.new.budget
    (g.L.Tape.told c.loop-walked.tape) (g.L.Tape.told c.go.new.tape) came) c.in-To.is c.in_ok-walked.ensures.ok).end.1

pub loop-walked-preserved : goal.loop-walked-preserved
loop-walked-preserved g c =
    let e = c.in_ok-walked.ensures in
    let pieces = pieces_at c.loop-walked.self c.loop-walked.at.atom in
    walking_on c.in-To.next pieces c.loop-walked.invariant
    (subst (λ (came : Walked). IsWalked c.loop-walked.self c.go.new.self c.args.trail.now.literals pieces
    c.loop-walked.budget c.go.new.budget (g.L.Tape.told c.loop-walked.tape) (g.L.Tape.told c.go.new.tape) came)
    c.in-To.is
    e.ok) e.grows e.steps e.counts

pub returns-in_default : goal.returns-in_default
returns-in_default g c =
    let h = c.loop-walked.invariant in
    let e = c.in_ok-walked.ensures in record {
      ok = walking_end (pieces_at c.loop-walked.self c.loop-walked.at.atom) c.in_ok-walked.walked c.in_default.not-To h
          e.ok
          e.steps;
      grows = grows_both h.grows e.grows;
      steps = spent_both c.args.budget.now c.loop-walked.budget c.go.new.budget h.steps e.steps;
      counts = e.counts ∙ h.same;
    }
