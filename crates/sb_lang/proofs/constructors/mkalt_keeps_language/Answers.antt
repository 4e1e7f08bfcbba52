use Rattle.sb_lang.proofs.ConstructorFacts.{mkalt_keeps}
use Rattle.sb_lang.proofs.constructors.mkalt_keeps_language.Goals as goal

pub returns : goal.returns
returns c = mkalt_keeps
