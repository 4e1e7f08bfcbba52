use Rattle.sb_lang.proofs.ConstructorFacts.{mkset_keeps}
use Rattle.sb_lang.proofs.constructors.mkset_keeps_language.Goals as goal

pub returns : goal.returns
returns c = mkset_keeps
