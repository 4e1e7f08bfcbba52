use Rattle.sb_rules.proofs.Narrowing.{class-none}
use Rattle.sb_rules.proofs.normal.set.Goals as goal

pub returns-in_default-clause-normal : goal.returns-in_default-clause-normal
returns-in_default-clause-normal c =
    class-none c.args.ranges.now c.in_ok-class.field-0 c.in_default.is c.in_ok-class.ensures
