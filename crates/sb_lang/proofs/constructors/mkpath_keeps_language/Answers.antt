use Rattle.sb_lang.proofs.ConstructorFacts.{mkpath_keeps}
use Rattle.sb_lang.proofs.constructors.mkpath_keeps_language.Goals as goal

pub returns : goal.returns
returns c = mkpath_keeps
