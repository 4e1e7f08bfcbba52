use Rattle.sb_lang.proofs.ConstructorFacts.{mkand_keeps}
use Rattle.sb_lang.proofs.constructors.mkand_keeps_language.Goals as goal

pub returns : goal.returns
returns c = mkand_keeps
