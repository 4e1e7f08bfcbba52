use Rattle.sb_regex.proofs.Comparing.{full_then, full_else, full_no, full_many}
use Rattle.sb_regex.proofs.build.is_full.Goals as goal

pub returns-then-low-eq0 : goal.returns-then-low-eq0
returns-then-low-eq0 c = full_then c.args.ranges.now c.in-len1.len_at_least c.in-len1.len_below c.if-low-eq0.true

pub returns-else-low-eq0 : goal.returns-else-low-eq0
returns-else-low-eq0 c = full_else c.args.ranges.now c.in-len1.len_at_least c.in-len1.len_below c.if-low-eq0.false

pub returns-in_default : goal.returns-in_default
returns-in_default c = full_no c.args.ranges.now c.in_default.len_below

pub returns-in_default-2 : goal.returns-in_default-2
returns-in_default-2 c = full_many c.args.ranges.now c.in_default.len_at_least
