use Rattle.sb_models.proofs.Knowledge as fact
use Rattle.sb_models.proofs.laws.models_stay.Goals as goal

pub returns : goal.returns
returns c = fact.models_stay
