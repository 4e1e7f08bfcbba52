use Rattle.std.proofs.Common.{arith}
use Rattle.sb_members.proofs.needed.is_front_of.Goals as goal

pub loop-wide-preserved : goal.loop-wide-preserved
loop-wide-preserved c =
    let behind = c.in-Some.ensures in (
      omega (arith, behind.first, c.loop-wide.invariant.0),
      omega (arith, behind.second, c.loop-wide.invariant.1),
      λ w. c.loop-wide.invariant.2 (behind.within w),
    )

pub returns : goal.returns
returns c = λ yes. c.loop-wide.invariant.2 (c.takes_in.ensures c.loop-wide-test.false)
