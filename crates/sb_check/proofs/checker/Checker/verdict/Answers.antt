use Rattle.std.proofs.Common.{Some, refl, ◌∙◌, arith}
use Rattle.std.proofs.lemmas.Result.{err_from_is_err_and}
use Rattle.sb_check.proofs.CheckTurns.{through_none, through_more, waits_on, verdict_stops}
use Rattle.sb_check.proofs.Numbers.{out_at}
use Rattle.sb_check.proofs.checker.Checker.verdict.Goals as goal

pub returns-in_err-said-clause-err : goal.returns-in_err-said-clause-err
returns-in_err-said-clause-err g c =
    let e = err_from_is_err_and c.from_residual.result c.from_residual.ensures.1 in
    verdict_stops c.from_residual.result e.0 _ _ _ _ _ _ _ _ _ e.1 e.2 c.loop-said.invariant.goes
    c.in_err-said.ensures.err

pub returns-in-Some-clause-ok : goal.returns-in-Some-clause-ok
returns-in-Some-clause-ok g c =
    through_more (Some c.in-Some.said) _ _ _ _ _ _ _ _ _ c.loop-said.invariant.goes (rw c.in-Some.is at
    c.in_ok-said.ensures.ok)

pub loop-said-init : goal.loop-said-init
loop-said-init g c = record {
  goes = through_none c.args.self.now.judge c.args.lines.now (g.W.World.outside c.args.world.now);
  stack = refl;
  standing = c.requires.standing;
  room = omega arith;
  faults = refl;
}

pub loop-said-preserved : goal.loop-said-preserved
loop-said-preserved g c = record {
  goes = through_more _ _ _ _ _ _ _ _ _ _ c.loop-said.invariant.goes
      (waits_on c.in_ok-said.field-0 _ _ _ _ _ _ c.in_default.not-Some c.in_ok-said.ensures.ok);
  stack = c.in_ok-said.ensures.stack ∙ c.loop-said.invariant.stack;
  standing = c.in_ok-said.ensures.standing;
  room = omega (arith, c.in_ok-said.ensures.room, c.loop-said.invariant.room);
  faults = c.in_ok-said.ensures.faults ∙ c.loop-said.invariant.faults;
}

pub returns-in_err-said-clause-numbers : goal.returns-in_err-said-clause-numbers
returns-in_err-said-clause-numbers g c =
    let e = err_from_is_err_and c.from_residual.result c.from_residual.ensures.1 in
    out_at c.from_residual.result e.0 _ _ _ e.1 e.2 c.loop-said.invariant.room c.in_err-said.ensures.numbers
