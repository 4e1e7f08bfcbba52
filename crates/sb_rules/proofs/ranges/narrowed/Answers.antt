use Rattle.sb_rules.proofs.Narrowing.{starts-wide, ends-wide}
use Rattle.sb_rules.proofs.ranges.narrowed.Goals as goal
use Rattle.sb_rules.proofs.ranges.narrowed.Goals.{then-range-via-then-range, then-range-via-else-range+then-range-2}

pub returns-then-range : goal.returns-then-range
returns-then-range c = elim c.then-range.branch [
  | then-range-via-then-range w ↦
      starts-wide c.args.ranges.now c.loop-range.range-index _ c.loop-range-test.true w.if-range.true
  | then-range-via-else-range+then-range-2 w ↦
      ends-wide c.args.ranges.now c.loop-range.range-index _ c.loop-range-test.true w.if-range-2.true
]
