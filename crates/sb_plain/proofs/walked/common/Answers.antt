use Rattle.std.proofs.Common.{arith}
use Rattle.std.proofs.lemmas.List.{take_more_same}
use Rattle.sb_plain.proofs.walked.common.Goals as goal

pub loop-count-preserved : goal.loop-count-preserved
loop-count-preserved c =
    let i = c.loop-count.invariant in
    record {
      within_left = omega (arith, c.loop-count-test.true, c.min-least.ensures);
      within_right = omega (arith, c.loop-count-test.true, c.min-least.ensures);
      same = take_more_same c.args.left.now c.args.right.now c.loop-count.count 0
          (omega (arith, c.loop-count-test.true, c.min-least.ensures))
          (omega (arith, c.loop-count-test.true, c.min-least.ensures)) i.same c.if-left-count.true;
    }
