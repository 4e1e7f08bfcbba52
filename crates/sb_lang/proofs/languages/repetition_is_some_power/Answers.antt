use Rattle.sb_lang.proofs.CutFacts.{repetition_is_some_power}
use Rattle.sb_lang.proofs.languages.repetition_is_some_power.Goals as goal

pub returns : goal.returns
returns c = repetition_is_some_power
