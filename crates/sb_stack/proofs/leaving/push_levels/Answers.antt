use Rattle.std.proofs.Common.{arith}
use Rattle.sb_stack.proofs.Lefts.{opened_reversed}
use Rattle.sb_stack.proofs.leaving.push_levels.Goals as goal

pub returns-clause-ok : goal.returns-clause-ok
returns-clause-ok c =
    opened_reversed c.args.count c.loop-place._place c.args.level c.args.levels.now.items c.loop-place.levels.items
    (omega (arith, c.loop-place-test.false, c.loop-place.auto._place-end)) c.loop-place.invariant
