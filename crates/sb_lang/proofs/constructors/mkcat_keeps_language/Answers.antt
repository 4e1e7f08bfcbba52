use Rattle.sb_lang.proofs.ConstructorFacts.{mkcat_keeps}
use Rattle.sb_lang.proofs.constructors.mkcat_keeps_language.Goals as goal

pub returns : goal.returns
returns c = mkcat_keeps
