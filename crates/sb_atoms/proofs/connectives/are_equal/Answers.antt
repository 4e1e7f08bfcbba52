use Rattle.sb_atoms.proofs.ConnectiveTruths.{chain_more, chain_stop, chain_end}
use Rattle.sb_atoms.proofs.connectives.are_equal.Goals as goal

pub loop-left-preserved : goal.loop-left-preserved
loop-left-preserved c =
    chain_more c.loop-left.left.now c.args.truths.now c.in-len2-up.len_at_least c.if-one-other.false
    c.loop-left.invariant

pub returns-then-one-other : goal.returns-then-one-other
returns-then-one-other c =
    chain_stop c.loop-left.left.now c.args.truths.now c.in-len2-up.len_at_least c.if-one-other.true
    c.loop-left.invariant

pub returns : goal.returns
returns c = chain_end c.loop-left.left.now c.args.truths.now c.in_default.len_below c.loop-left.invariant
