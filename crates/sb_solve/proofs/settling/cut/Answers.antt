use Rattle.sb_solve.proofs.Words.{length, not, arith, IfOk-weaker, of_sign}
use Rattle.sb_solve.proofs.Goings.{above, both-known, cut-steps, cut-steps-turned, lower-first}
use Rattle.sb_solve.proofs.settling.cut.Goals as goal

pub step-requires : goal.step-requires
step-requires g c =
    let one = of_sign c.args.truth c.args.atom in
    let other = of_sign (not c.args.truth) c.args.end in
    record {
      known = both-known (length c.args.evidence.now.atoms) one other c.requires.known.0 c.requires.known.1;
      ascends = lower-first one other c.if-atom-end.true;
      some = λ none. Prim.cc (none);
    }

pub step-requires-2 : goal.step-requires-2
step-requires-2 g c =
    let one = of_sign c.args.truth c.args.atom in
    let other = of_sign (not c.args.truth) c.args.end in
    record {
      known = both-known (length c.args.evidence.now.atoms) other one c.requires.known.1 c.requires.known.0;
      ascends = lower-first other one
          (above c.args.atom c.args.end (omega (arith, c.if-atom-end.false)) c.requires.apart);
      some = λ none. Prim.cc (none);
    }

pub returns-then-atom-end : goal.returns-then-atom-end
returns-then-atom-end g c = record {
  steps = IfOk-weaker c.step.result _ _
      (λ done h x below at.
      cut-steps c.steps_are_exact.ensures c.steps_hold.ensures c.args.proves x c.args.evidence.now c.step.new.self
      c.args.budget.now c.step.new.budget (g.L.Tape.told c.args.tape.now) (g.L.Tape.told c.step.new.tape) c.args.atom
      c.args.end c.args.truth done below c.requires.known.0 c.requires.known.1 at h)
      c.step.ensures.steps;
  counts = c.step.ensures.counts;
}

pub returns : goal.returns
returns g c = record {
  steps = IfOk-weaker c.step-2.result _ _
      (λ done h x below at.
      cut-steps-turned c.steps_are_exact.ensures c.steps_hold.ensures c.args.proves x c.args.evidence.now
      c.step-2.new.self c.args.budget.now c.step-2.new.budget (g.L.Tape.told c.args.tape.now)
      (g.L.Tape.told c.step-2.new.tape) c.args.atom c.args.end c.args.truth done below c.requires.known.0
      c.requires.known.1 at h)
      c.step-2.ensures.steps;
  counts = c.step-2.ensures.counts;
}
