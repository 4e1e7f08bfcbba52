use Rattle.std.proofs.Common.{arith}
use Rattle.sb_lengths.proofs.Sums.{sums_begun, sums_added, sums_passed, sums_done}
use Rattle.sb_lengths.proofs.length_set.LengthSet.sums.Goals as goal
use Rattle.sb_lengths.proofs.length_set.LengthSet.sums.Goals.{then-rest-eq1, else-rest-eq1}

pub loop-rest-init : goal.loop-rest-init
loop-rest-init c = rw (← c.self.view_is, ← c.other.view_is) (sums_begun c.self.inside.bits c.other.inside.bits)

pub loop-rest-preserved : goal.loop-rest-preserved
loop-rest-preserved c = elim c.if-rest-eq1.branch [
  | then-rest-eq1 w ↦
      rw w.sums-is
      (sums_added c.args.self c.args.other c.loop-rest.sums c.loop-rest.rest c.loop-rest.moved w.if-rest-eq1.true
      c.loop-rest.invariant)
  | else-rest-eq1 w ↦
      rw w.sums-is
      (sums_passed c.args.self c.args.other c.loop-rest.sums c.loop-rest.rest c.loop-rest.moved w.if-rest-eq1.false
      c.loop-rest.invariant)
]

pub returns : goal.returns
returns c =
    sums_done c.args.self c.args.other c.loop-rest.sums c.loop-rest.rest c.loop-rest.moved
    (omega (arith, c.loop-rest-test.false)) c.loop-rest.invariant
