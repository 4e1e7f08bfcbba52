use Rattle.std.proofs.Common.{get_or}
use Rattle.sb_members.proofs.Stronger.{range_within, in_range_at}
use Rattle.sb_members.proofs.needed.covers.Goals as goal

pub returns-then-range-other : goal.returns-then-range-other
returns-then-range-other c = λ _ code h.
    let ranges = c.args.ranges.now in
    let i = c.loop-other.other-index in
    in_range_at ranges i (0, 0) c.loop-other-test.true code
    (range_within c.args.range (get_or ranges i (0, 0)) c.if-other-range.true c.if-range-other.true code h)
