use Rattle.std.proofs.Common.{ap, ◌∙◌}
use Rattle.sb_class.specs.Ranges.{rises_from}
use Rattle.sb_class.proofs.RangeFacts.{rises_from-nil}
use Rattle.sb_class.proofs.Class.empty.Goals as goal

pub invariant_of-result : goal.invariant_of-result
invariant_of-result c = ap (rises_from 0) c.new.ensures.items ∙ rises_from-nil 0
