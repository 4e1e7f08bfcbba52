use Rattle.sb_lengths.proofs.Repeats.{repeats_begun, repeats_added, repeats_passed, repeats_done}
use Rattle.sb_lengths.proofs.length_set.LengthSet.repeats.Goals as goal
use Rattle.sb_lengths.proofs.length_set.LengthSet.repeats.Goals.{then-sums-length-eq1, else-sums-length-eq1}

pub loop-length-init : goal.loop-length-init
loop-length-init c = repeats_begun c.iteration_is_some_power.ensures c.self.inside.bits

pub loop-length-preserved : goal.loop-length-preserved
loop-length-preserved c = elim c.if-sums-length-eq1.branch [
  | then-sums-length-eq1 w ↦
      rw w.sums-is
      (repeats_added c.cut_is_some_cut.ensures c.iteration_is_some_power.ensures c.self.inside.bits c.loop-length.sums
      c.loop-length.length c.loop-length-test.true w.if-sums-length-eq1.true c.loop-length.invariant)
  | else-sums-length-eq1 w ↦
      rw w.sums-is
      (repeats_passed c.self.inside.bits c.loop-length.sums c.loop-length.length w.if-sums-length-eq1.false
      c.loop-length.invariant)
]

pub returns : goal.returns
returns c =
    rw (← c.self.view_is)
    (repeats_done c.cut_is_some_cut.ensures c.iteration_is_some_power.ensures c.self.inside.bits c.loop-length.sums
    c.loop-length.length c.loop-length-test.false c.loop-length.invariant)
