use Rattle.std.proofs.Common.{◌∙◌, ap}
use Rattle.std.proofs.Math.ListN.{set}
use Rattle.sb_plain.specs.Staying.{cut_to}
use Rattle.sb_plain.proofs.Staying.{cut_more}
use Rattle.sb_plain.proofs.walked.cut.Goals as goal

pub loop-place-preserved : goal.loop-place-preserved
loop-place-preserved c =
    ap (set c.loop-place.stays c.loop-place.place)
    (c.cut.ensures ∙ ap (cut_to c.args.count) c.index-stays-place.is)
    ∙ cut_more (cut_to c.args.count) c.args.stays.now c.loop-place.stays c.loop-place.place
    c.index-stays-place.result c.loop-place-test.true c.loop-place.invariant
