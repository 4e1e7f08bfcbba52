use Rattle.sb_theory.proofs.Words.{Option, subst, ◌∙◌, ℕ, IfOk-from_err, CountsTapeFault, counts_none, counts_on, err_from_is_err_and, spent_none}
use Rattle.sb_split.specs.Steps.{IsStepAt}
use Rattle.sb_split.specs.declared.stepping.Step.{Step}
use Rattle.sb_theory.specs.Walks.{IfBetween, Notes, pieces_at}
use Rattle.sb_theory.proofs.Going.{no_step, notable_lead, notable_rest, pieces_widened, ready, stepped, walked_noted, walked_spent, walked_weighed, wrong_widened}
use Rattle.sb_theory.proofs.Moving.{grows_both}
use Rattle.sb_theory.proofs.strings.Strings.go.Goals as goal

pub between-requires : goal.between-requires
between-requires g c = record { stands = c.requires.stands; wrong = c.requires.wrong }

pub returns-in_err-found : goal.returns-in_err-found
returns-in_err-found g c =
    let r = c.from_residual in
    let p = err_from_is_err_and r.result r.ensures.1 in
    let e = c.in_err-found.ensures in record {
      ok = IfOk-from_err r.result _ r.ensures.0;
      grows = e.grows;
      steps = e.steps;
      counts = counts_on (Option ℕ) r.result p.0 _ _ _ p.1 p.2 e.counts;
    }

pub returns-in_default : goal.returns-in_default
returns-in_default g c =
    let e = c.in_ok-found.ensures in record {
      ok = walked_spent (pieces_at c.args.self.now c.args.at.atom) e.ok.0
          (subst (IfBetween c.between.new.self c.args.at c.between.new.budget) c.in_default.is e.ok.1);
      grows = e.grows;
      steps = e.steps;
      counts = e.counts;
    }

pub steps-requires : goal.steps-requires
steps-requires g c =
    let e = c.in_ok-found.ensures in
    let b = subst (IfBetween c.between.new.self c.args.at c.between.new.budget) c.in-Some.is e.ok.1 in record {
      stands = e.ok.0.sofar.stands;
      wrong = wrong_widened c.args.at c.requires.stands.holds e.ok.0 c.requires.wrong;
      between = b.below;
    }

pub returns-in_err-given : goal.returns-in_err-given
returns-in_err-given g c =
    let r = c.from_residual-in_err-given in
    let p = err_from_is_err_and r.result r.ensures.1 in
    let e = c.in_ok-found.ensures in
    let s = c.in_err-given.ensures.leaves c.between.new.budget in record {
      ok = IfOk-from_err r.result _ r.ensures.0;
      grows = grows_both e.grows s.grows;
      steps = e.steps;
      counts = subst (λ n. CountsTapeFault r.result n (g.L.Tape.faults c.steps.new.tape)) e.counts
          (counts_on (Option Step) r.result p.0 _ _ _ p.1 p.2 s.counts);
    }

pub unreachable-requires : goal.unreachable-requires
unreachable-requires g c =
    let e = c.in_ok-found.ensures in
    let s = c.in_ok-given.ensures.leaves c.between.new.budget in
    no_step c.args.at c.in-Some.between c.in_ok-given.given
    (wrong_widened c.args.at e.ok.0.sofar.stands.holds s.ok
    (wrong_widened c.args.at c.requires.stands.holds e.ok.0 c.requires.wrong)) c.in_default-given.is
    c.in_ok-given.ensures.step

pub note_both-requires : goal.note_both-requires
note_both-requires g c =
    let e = c.in_ok-found.ensures in
    let s = c.in_ok-given.ensures.leaves c.between.new.budget in
    let z = c.steps.new.self in
    let step = c.in-Some-given.step in
    let b = subst (IfBetween c.between.new.self c.args.at c.between.new.budget) c.in-Some.is e.ok.1 in
    let is = subst (IsStepAt z.store.arena z.atoms c.in-Some.between c.args.at) c.in-Some-given.is
    c.in_ok-given.ensures.step
    in
    let t = stepped c.nullable_has_empty_word.ensures c.derivative_along_has_rests.ensures
    c.mkpath_keeps_language.ensures
    c.order_tells_apart.ensures c.args.at c.in-Some.between step c.requires.stands c.requires.wrong e.ok.0 e.steps b
    s.ok is
    in record {
      stands = t.widens.sofar.stands;
      lead = notable_lead z step.lead t.told.lead;
      rest = notable_rest z c.args.at step.rest t.told.rest;
    }

pub returns-in_err-again : goal.returns-in_err-again
returns-in_err-again g c =
    let r = c.from_residual-in_err-again in
    let p = err_from_is_err_and r.result r.ensures.1 in
    let e = c.in_ok-found.ensures in
    let s = c.in_ok-given.ensures.leaves c.between.new.budget in
    let now = g.L.Tape.faults c.steps.new.tape in record {
      ok = IfOk-from_err r.result _ r.ensures.0;
      grows = grows_both (grows_both e.grows s.grows) c.in_err-again.ensures.keeps.grows;
      steps = e.steps;
      counts = subst (λ n. CountsTapeFault r.result n now) (s.counts ∙ e.counts) (counts_none r.result p.0 now p.1 p.2);
    }

pub returns-then-again : goal.returns-then-again
returns-then-again g c =
    let e = c.in_ok-found.ensures in
    let s = c.in_ok-given.ensures.leaves c.between.new.budget in
    let z = c.steps.new.self in
    let step = c.in-Some-given.step in
    let b = subst (IfBetween c.between.new.self c.args.at c.between.new.budget) c.in-Some.is e.ok.1 in
    let is = subst (IsStepAt z.store.arena z.atoms c.in-Some.between c.args.at) c.in-Some-given.is
    c.in_ok-given.ensures.step
    in
    let t = stepped c.nullable_has_empty_word.ensures c.derivative_along_has_rests.ensures
    c.mkpath_keeps_language.ensures
    c.order_tells_apart.ensures c.args.at c.in-Some.between step c.requires.stands c.requires.wrong e.ok.0 e.steps b
    s.ok is
    in
    let n = subst (Notes z c.note_both.new.self c.args.trail.now.literals) c.if-again.true c.in_ok-again.ensures.notes
    in
    record {
      ok = walked_noted (pieces_at c.args.self.now c.args.at.atom) t.widens e.steps n (spent_none c.between.new.budget);
      grows = grows_both t.widens.grows n.keeps.grows;
      steps = e.steps;
      counts = s.counts ∙ e.counts;
    }

pub weigh-requires : goal.weigh-requires
weigh-requires g c =
    let e = c.in_ok-found.ensures in
    let s = c.in_ok-given.ensures.leaves c.between.new.budget in
    let z = c.steps.new.self in
    let step = c.in-Some-given.step in
    let b = subst (IfBetween c.between.new.self c.args.at c.between.new.budget) c.in-Some.is e.ok.1 in
    let is = subst (IsStepAt z.store.arena z.atoms c.in-Some.between c.args.at) c.in-Some-given.is
    c.in_ok-given.ensures.step
    in
    let t = stepped c.nullable_has_empty_word.ensures c.derivative_along_has_rests.ensures
    c.mkpath_keeps_language.ensures
    c.order_tells_apart.ensures c.args.at c.in-Some.between step c.requires.stands c.requires.wrong e.ok.0 e.steps b
    s.ok is
    in
    let n = subst (Notes z c.note_both.new.self c.args.trail.now.literals) c.if-again.false c.in_ok-again.ensures.notes
    in
    let v = ready c.args.at c.in-Some.between step c.requires.whole c.requires.settled t.widens t.wrong t.between t.step
    n in
    record {
      stands = n.stands;
      whole = v.whole;
      settled = v.settled;
      wrong = v.wrong;
      between = v.between;
      step = v.step;
      lead = c.in_ok-again.ensures.lead;
      rest = c.in_ok-again.ensures.rest;
    }

pub returns-in_err-ended : goal.returns-in_err-ended
returns-in_err-ended g c =
    let r = c.from_residual-in_err-ended in
    let p = err_from_is_err_and r.result r.ensures.1 in
    let e = c.in_ok-found.ensures in
    let s = c.in_ok-given.ensures.leaves c.between.new.budget in
    let now = g.L.Tape.faults c.steps.new.tape in record {
      ok = IfOk-from_err r.result _ r.ensures.0;
      grows = grows_both (grows_both (grows_both e.grows s.grows) c.in_ok-again.ensures.keeps.grows)
          c.in_err-ended.ensures.keeps.grows;
      steps = e.steps;
      counts = subst (λ n. CountsTapeFault r.result n now) (s.counts ∙ e.counts) (counts_none r.result p.0 now p.1 p.2);
    }

pub returns : goal.returns
returns g c =
    let e = c.in_ok-found.ensures in
    let s = c.in_ok-given.ensures.leaves c.between.new.budget in
    let z = c.steps.new.self in
    let step = c.in-Some-given.step in
    let b = subst (IfBetween c.between.new.self c.args.at c.between.new.budget) c.in-Some.is e.ok.1 in
    let is = subst (IsStepAt z.store.arena z.atoms c.in-Some.between c.args.at) c.in-Some-given.is
    c.in_ok-given.ensures.step
    in
    let t = stepped c.nullable_has_empty_word.ensures c.derivative_along_has_rests.ensures
    c.mkpath_keeps_language.ensures
    c.order_tells_apart.ensures c.args.at c.in-Some.between step c.requires.stands c.requires.wrong e.ok.0 e.steps b
    s.ok is
    in
    let n = subst (Notes z c.note_both.new.self c.args.trail.now.literals) c.if-again.false c.in_ok-again.ensures.notes
    in
    let v = ready c.args.at c.in-Some.between step c.requires.whole c.requires.settled t.widens t.wrong t.between t.step
    n in
    let w = c.in_ok-ended.ensures in
    let grows = grows_both t.widens.grows n.keeps.grows in record {
      ok = walked_weighed (pieces_at c.note_both.new.self c.args.at.atom) (pieces_at c.args.self.now c.args.at.atom)
          c.in_ok-ended.ended t.widens e.steps n w.keeps w.rows w.noted v.whole v.settled
          (pieces_widened c.args.at c.requires.wrong grows) w.end;
      grows = grows_both grows w.keeps.grows;
      steps = e.steps;
      counts = s.counts ∙ e.counts;
    }
