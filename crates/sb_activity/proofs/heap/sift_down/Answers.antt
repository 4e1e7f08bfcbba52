use Rattle.std.proofs.Common.{◌∙◌, ap, arith}
use Rattle.sb_activity.specs.Waiting.{are_first}
use Rattle.sb_activity.proofs.Swaps.{first_swapped}
use Rattle.sb_activity.proofs.heap.sift_down.Goals as goal

pub loop-at-preserved : goal.loop-at-preserved
loop-at-preserved c =
    let at_heap = c.loop-at.invariant.1 in (
      c.swap.ensures.inverse,
      c.swap.ensures.length ∙ at_heap,
      ap (are_first c.args.count) c.swap.ensures.places
          ∙ (first_swapped c.loop-at.heap c.loop-at.places c.loop-at.at c.below-below.result c.args.count
          c.loop-at.invariant.0
          (omega (arith, at_heap, c.below-below.ensures.below, c.below-below.ensures.within, c.requires.within))
          (omega (arith, at_heap, c.below-below.ensures.within, c.requires.within))
          (omega (arith, c.below-below.ensures.below, c.below-below.ensures.within)) c.below-below.ensures.within
          ∙ c.loop-at.invariant.2),
    )
