use Rattle.sb_atoms.proofs.ConnectiveTruths.{some_more}
use Rattle.sb_atoms.proofs.connectives.some_true.Goals as goal

pub loop-left-preserved : goal.loop-left-preserved
loop-left-preserved c =
    some_more c.args.truths.now c.loop-left.left c.loop-left.some c.loop-left-test.true c.loop-left.invariant
