use Rattle.sb_plain.proofs.Members.{put_first, put_next}
use Rattle.sb_plain.proofs.walk.put_each.Goals as goal

pub loop-count-init : goal.loop-count-init
loop-count-init c = put_first c.args.place c.args.parts.now c.args.states.now.items

pub loop-count-preserved : goal.loop-count-preserved
loop-count-preserved c =
    put_next c.args.place c.args.parts.now c.loop-count.count c.index-parts-parts.result c.args.states.now.items
    c.loop-count.states.items c.put.new.states.items c.loop-count-test.true c.index-parts-parts.is c.loop-count.invariant
    c.in_ok-put.ensures
