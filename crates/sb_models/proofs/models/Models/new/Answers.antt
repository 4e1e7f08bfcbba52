use Rattle.std.proofs.Common.{refl}
use Rattle.sb_models.proofs.Knowledge.{knows_none}
use Rattle.sb_models.proofs.models.Models.new.Goals as goal

pub returns : goal.returns
returns c = λ stack. knows_none _ stack c.new.ensures refl c.new-2.ensures.items
