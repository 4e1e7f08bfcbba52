use Rattle.std.proofs.Common.{◌∙◌}
use Rattle.std.specs.HashSet.{contains}
use Rattle.sb_analyze.specs.Assumed.{are_equal}
use Rattle.sb_analyze.proofs.Minimal.{removed_is}
use Rattle.sb_analyze.proofs.minimise.take_out.Goals as goal

pub returns : goal.returns
returns c = λ m. c.remove.ensures.updates.0 m ∙ removed_is c.args.literal m (contains are_equal c.args.standing.now m)
