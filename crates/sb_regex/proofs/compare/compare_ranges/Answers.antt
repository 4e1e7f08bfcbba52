use Rattle.std.proofs.Common.{◌∙◌}
use Rattle.sb_regex.proofs.Comparing.{ranges_by_ends}
use Rattle.sb_regex.proofs.compare.compare_ranges.Goals as goal

pub returns : goal.returns
returns c = c.cmp.ensures ∙ ranges_by_ends c.args.left.now c.args.right.now
