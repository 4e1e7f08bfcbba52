use Rattle.std.proofs.Common.{arith, sym, subst}
use Rattle.sb_fragment.specs.Measures.{AreMeasures}
use Rattle.sb_fragment.proofs.MeasureFacts.{measures_more}
use Rattle.sb_fragment.proofs.measures.extend.Goals as goal

pub measure_of-requires : goal.measure_of-requires
measure_of-requires c = record {
  number = omega (arith, c.in_ok-next.ensures, c.loop-id-test.true, c.requires.number);
  reached = omega (arith, c.in_ok-next.ensures, c.len-in-loop-id.ensures, c.deref.ensures.len);
  right = subst (AreMeasures c.args.table.now) (sym c.deref.ensures.value) c.loop-id.invariant;
}

pub loop-id-preserved : goal.loop-id-preserved
loop-id-preserved c =
    rw (c.in_ok-push.ensures.items)
    (measures_more c.args.table.now c.loop-id.measures.items c.in_ok-measure.measure c.in_ok-next.next
    c.loop-id.invariant (omega (arith, c.in_ok-next.ensures, c.len-in-loop-id.ensures, c.deref.ensures.len))
    (omega (arith, c.in_ok-next.ensures, c.loop-id-test.true, c.requires.number)) c.in_ok-measure.ensures)
