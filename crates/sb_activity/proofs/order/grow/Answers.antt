use Rattle.std.proofs.Common.{◌≡◌, ◌+◌, ◌-◌, length, ap, arith}
use Rattle.std.proofs.lemmas.List.{length_push}
use Rattle.sb_activity.proofs.Swaps.{first_pushed}
use Rattle.sb_activity.proofs.order.grow.Goals as goal

pub loop-atom-preserved : goal.loop-atom-preserved
loop-atom-preserved c =
    let n = length c.args.places.now.items in
    let more : (c.loop-atom.atom - n) + 1 ≡ c.loop-atom.atom + 1 - n = omega (arith, c.loop-atom.invariant.3) in (
      c.add.ensures.inverse,
      omega (arith, c.loop-atom.invariant.1, ap length c.add.ensures.places, length_push c.loop-atom.places.items c.loop-atom.atom),
      omega (arith, c.loop-atom.invariant.2, ap length c.add.ensures.heap, length_push c.loop-atom.heap.items c.loop-atom.atom),
      omega (arith, c.loop-atom.invariant.3),
      omega (arith, c.loop-atom.invariant.4, c.add.ensures.capacity),
      omega (arith, c.loop-atom.invariant.5, c.add.ensures.places_capacity),
      λ count low.
          rw (c.add.ensures.places, ← more)
          (first_pushed c.loop-atom.places.items c.loop-atom.atom count (c.loop-atom.atom - n) _
          (omega (arith, low, c.loop-atom.invariant.3)) (c.loop-atom.invariant.6 count low)),
    )
