use Rattle.std.proofs.Common.{◌∙◌}
use Rattle.sb_rules.proofs.Parting.{pieces_tested}
use Rattle.sb_rules.proofs.splits.are_same.Goals as goal

pub returns : goal.returns
returns c = c.eq.ensures ∙ pieces_tested c.args.one.now c.args.other.now
