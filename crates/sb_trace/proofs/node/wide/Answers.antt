use Rattle.std.proofs.Common.{◌∙◌}
use Rattle.std.proofs.lemmas.List.{take_all}
use Rattle.sb_trace.proofs.node.wide.Goals as goal

pub returns : goal.returns
returns c = c.loop-first.invariant ∙ take_all c.loop-first.first-index c.args.ranges.now c.loop-first-test.false
