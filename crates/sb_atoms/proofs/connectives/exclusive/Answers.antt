use Rattle.std.proofs.Common.{◌-◌, length, take, drop}
use Rattle.sb_atoms.proofs.ConnectiveTruths.{odd_start, odd_more, odd_end}
use Rattle.sb_atoms.proofs.connectives.exclusive.Goals as goal

pub loop-other-init : goal.loop-other-init
loop-other-init c = odd_start c.args.truths.now c.in-len1-up.len_at_least

pub loop-other-preserved : goal.loop-other-preserved
loop-other-preserved c =
    odd_more (take (length c.args.truths.now - 1) (drop 1 c.args.truths.now)) c.args.truths.now c.loop-other.odd
    c.loop-other.other-index c.loop-other-test.true c.loop-other.invariant

pub returns : goal.returns
returns c =
    odd_end (take (length c.args.truths.now - 1) (drop 1 c.args.truths.now)) c.args.truths.now c.loop-other.odd
    c.loop-other.other-index c.loop-other-test.false c.loop-other.invariant
