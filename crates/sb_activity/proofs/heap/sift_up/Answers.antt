use Rattle.std.proofs.Common.{◌-◌, ◌/◌, ◌∙◌, ap, arith}
use Rattle.sb_activity.specs.Waiting.{are_first}
use Rattle.sb_activity.proofs.Swaps.{first_swapped}
use Rattle.sb_activity.proofs.heap.sift_up.Goals as goal

pub loop-at-preserved : goal.loop-at-preserved
loop-at-preserved c = (
  c.swap.ensures.inverse,
  c.swap.ensures.length ∙ c.loop-at.invariant.1,
  omega (arith, c.loop-at.invariant.2),
  λ count low.
      ap (are_first count) c.swap.ensures.places
      ∙ (first_swapped c.loop-at.heap c.loop-at.places c.loop-at.at ((c.loop-at.at - 1) / 2) count c.loop-at.invariant.0
      (omega (arith, c.loop-at.invariant.1, c.loop-at.invariant.2, c.requires.within))
      (omega (arith, c.loop-at.invariant.1, c.loop-at.invariant.2, c.requires.within))
      (omega (arith, c.loop-at.invariant.2, low)) (omega (arith, c.loop-at.invariant.2, low))
      ∙ c.loop-at.invariant.3 count low),
)
