use Rattle.std.proofs.Common.{arith}
use Rattle.sb_deriv.proofs.Gathered.{gathered_init, next_positive, gathered_step, complete, are_canonical, are_targets}
use Rattle.sb_deriv.proofs.targets.gather.Goals as goal

pub loop-i-init : goal.loop-i-init
loop-i-init c = gathered_init c.args.pieces.now c.new-seen.result.keys c.new-gathered.result.items c.requires
    c.new-seen.ensures.empty c.new-gathered.ensures.items

pub last_of-requires-clause-more : goal.last_of-requires-clause-more
last_of-requires-clause-more c =
    next_positive c.args.pieces.now c.loop-i.i c.index-pieces-i.result c.loop-i.seen.keys c.loop-i.gathered.items
    c.loop-i.invariant c.loop-i-test.true c.index-pieces-i.is

pub loop-i-preserved : goal.loop-i-preserved
loop-i-preserved c =
    gathered_step c.args.pieces.now c.loop-i.i c.index-pieces-i.result c.last_of.result c.loop-i.seen.keys
    c.put.new.seen.keys c.loop-i.gathered.items c.put.new.gathered.items
    c.loop-i.invariant c.loop-i-test.true c.index-pieces-i.is c.last_of.ensures c.in_ok-put.ensures.keys
    c.in_ok-put.ensures.once c.in_ok-put.ensures.put

pub returns-clause-canonical : goal.returns-clause-canonical
returns-clause-canonical c =
    are_canonical c.args.pieces.now c.loop-i.gathered.items
    (complete c.args.pieces.now c.loop-i.i c.loop-i.seen.keys c.loop-i.gathered.items c.requires c.loop-i.invariant
    (omega (arith, c.loop-i-test.false)))

pub returns-clause-targets : goal.returns-clause-targets
returns-clause-targets c =
    are_targets c.args.pieces.now c.loop-i.gathered.items
    (complete c.args.pieces.now c.loop-i.i c.loop-i.seen.keys c.loop-i.gathered.items c.requires c.loop-i.invariant
    (omega (arith, c.loop-i-test.false)))
