use Rattle.sb_lang.proofs.ConstructorFacts.{mkstar_keeps}
use Rattle.sb_lang.proofs.constructors.mkstar_keeps_language.Goals as goal

pub returns : goal.returns
returns c = mkstar_keeps
