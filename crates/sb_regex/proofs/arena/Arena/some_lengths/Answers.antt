use Rattle.sb_regex.proofs.Measured.{some_begun, some_more, some_whole}
use Rattle.sb_regex.proofs.arena.Arena.some_lengths.Goals as goal

pub loop-id-init : goal.loop-id-init
loop-id-init c = some_begun c.args.self.now c.args.ids.now c.none-lengths.result c.none-lengths.ensures

pub loop-id-preserved : goal.loop-id-preserved
loop-id-preserved c =
    some_more c.args.self.now c.args.ids.now c.loop-id.id-index c.id-item.result c.loop-id.lengths c.lengths.result
    c.union-lengths.result c.loop-id-test.true c.id-item.is c.loop-id.invariant c.lengths.ensures
    c.union-lengths.ensures

pub returns : goal.returns
returns c =
    some_whole c.args.self.now c.args.ids.now c.loop-id.id-index c.loop-id.lengths c.loop-id-test.false
    c.loop-id.invariant
