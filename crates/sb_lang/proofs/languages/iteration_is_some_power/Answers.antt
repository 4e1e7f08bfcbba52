use Rattle.sb_lang.proofs.CutFacts.{iteration_is_some_power}
use Rattle.sb_lang.proofs.languages.iteration_is_some_power.Goals as goal

pub returns : goal.returns
returns c = iteration_is_some_power
