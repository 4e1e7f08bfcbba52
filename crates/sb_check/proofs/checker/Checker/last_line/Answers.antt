use Rattle.std.proofs.Common.{true, false, refl, ◌∙◌, arith}
use Rattle.std.proofs.lemmas.Result.{err_from_is_err_and}
use Rattle.sb_check.proofs.EndTurns.{last_none, last_more, last_stops}
use Rattle.sb_check.proofs.Numbers.{out_at}
use Rattle.sb_check.proofs.checker.Checker.last_line.Goals as goal

pub returns-in_err-last_turn-clause-err : goal.returns-in_err-last_turn-clause-err
returns-in_err-last_turn-clause-err g c =
    let e = err_from_is_err_and c.from_residual.result c.from_residual.ensures.1 in
    last_stops c.from_residual.result e.0 _ _ _ _ _ _ _ _ _ e.1 e.2 c.loop.invariant.goes c.in_err-last_turn.ensures.err

pub returns-then-branch-clause-ok : goal.returns-then-branch-clause-ok
returns-then-branch-clause-ok g c =
    last_more true _ _ _ _ _ _ _ _ _ c.loop.invariant.goes (rw c.if-branch.true at c.in_ok-last_turn.ensures.ok)

pub loop-init : goal.loop-init
loop-init g c = record {
  goes = last_none c.args.self.now.judge c.args.lines.now (g.W.World.outside c.args.world.now);
  standing = c.requires.standing;
  room = omega arith;
  faults = refl;
}

pub loop-preserved : goal.loop-preserved
loop-preserved g c = record {
  goes = last_more false _ _ _ _ _ _ _ _ _ c.loop.invariant.goes
      (rw c.if-branch.false at c.in_ok-last_turn.ensures.ok);
  standing = c.in_ok-last_turn.ensures.standing;
  room = omega (arith, c.in_ok-last_turn.ensures.room, c.loop.invariant.room);
  faults = c.in_ok-last_turn.ensures.faults ∙ c.loop.invariant.faults;
}

pub returns-in_err-last_turn-clause-numbers : goal.returns-in_err-last_turn-clause-numbers
returns-in_err-last_turn-clause-numbers g c =
    let e = err_from_is_err_and c.from_residual.result c.from_residual.ensures.1 in
    out_at c.from_residual.result e.0 _ _ _ e.1 e.2 c.loop.invariant.room c.in_err-last_turn.ensures.numbers
