use Rattle.std.proofs.Common.{arith}
use Rattle.sb_plain.proofs.PointFacts.{range_parts}
use Rattle.sb_plain.proofs.points.put_range.Goals as goal

pub returns-in_ok-put-2-clause-put : goal.returns-in_ok-put-2-clause-put
returns-in_ok-put-2-clause-put c =
    range_parts c.put-then-range-lt-LAST_CHARACTER.new.set.keys c.args.range
    (λ l t h. c.in_ok-put.ensures.put l t (c.in_ok-put-2.ensures.kept t h))
    (λ l. c.in_ok-put-2.ensures.put (omega (arith, l)))

pub returns-else-range-lt-LAST_CHARACTER-clause-put : goal.returns-else-range-lt-LAST_CHARACTER-clause-put
returns-else-range-lt-LAST_CHARACTER-clause-put c =
    range_parts c.put.new.set.keys c.args.range c.in_ok-put.ensures.put
    (λ l. absurd (omega (arith, l, c.if-range-lt-LAST_CHARACTER.false)))
