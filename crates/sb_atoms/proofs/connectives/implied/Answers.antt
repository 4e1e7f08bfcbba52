use Rattle.sb_atoms.proofs.ConnectiveTruths.{some_there, implied_last, implied_more, implied_end}
use Rattle.sb_atoms.proofs.connectives.implied.Goals as goal

pub loop-left-init : goal.loop-left-init
loop-left-init c = implied_last c.args.truths.now (some_there c.args.truths.now c.if-is_empty.ensures)

pub loop-left-preserved : goal.loop-left-preserved
loop-left-preserved c =
    implied_more c.args.truths.now c.loop-left.left c.loop-left.behind c.loop-left-test.true c.loop-left.invariant

pub returns : goal.returns
returns c = implied_end c.args.truths.now c.loop-left.left c.loop-left.behind c.loop-left-test.false c.loop-left.invariant
