use Rattle.sb_models.proofs.WordFacts.{front_more}
use Rattle.sb_models.proofs.changes.same_front.Goals as goal

pub loop-place-preserved : goal.loop-place-preserved
loop-place-preserved c =
    front_more c.args.one.now c.args.other.now c.loop-place.place _ c.loop-place-test.true
    (c.is_constant_at.ensures c.if-not-is_constant_at.false) c.loop-place.invariant
