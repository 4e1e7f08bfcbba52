use Rattle.sb_rules.proofs.Narrowing.{narrowed-none}
use Rattle.sb_rules.proofs.ranges.class_of.Goals as goal

pub returns-in_default : goal.returns-in_default
returns-in_default c = narrowed-none c.args.ranges.now c.in_ok-narrow.field-0 c.in_default.is c.in_ok-narrow.ensures
