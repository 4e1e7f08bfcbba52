use Rattle.sb_atoms.proofs.ConnectiveTruths.{all_more}
use Rattle.sb_atoms.proofs.connectives.all_true.Goals as goal

pub loop-left-preserved : goal.loop-left-preserved
loop-left-preserved c =
    all_more c.args.truths.now c.loop-left.left c.loop-left.all c.loop-left-test.true c.loop-left.invariant
