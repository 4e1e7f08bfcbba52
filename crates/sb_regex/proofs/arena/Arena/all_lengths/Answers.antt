use Rattle.sb_regex.proofs.Measured.{all_begun, all_more, all_whole}
use Rattle.sb_regex.proofs.arena.Arena.all_lengths.Goals as goal

pub loop-id-init : goal.loop-id-init
loop-id-init c = all_begun c.args.self.now c.args.ids.now c.every-lengths.result c.every-lengths.ensures

pub loop-id-preserved : goal.loop-id-preserved
loop-id-preserved c =
    all_more c.args.self.now c.args.ids.now c.loop-id.id-index c.id-item.result c.loop-id.lengths c.lengths.result
    c.intersection-lengths.result c.loop-id-test.true c.id-item.is c.loop-id.invariant c.lengths.ensures
    c.intersection-lengths.ensures

pub returns : goal.returns
returns c =
    all_whole c.args.self.now c.args.ids.now c.loop-id.id-index c.loop-id.lengths c.loop-id-test.false
    c.loop-id.invariant
