use Rattle.sb_lang.proofs.ConstructorFacts.{mknot_keeps}
use Rattle.sb_lang.proofs.constructors.mknot_keeps_language.Goals as goal

pub returns : goal.returns
returns c = mknot_keeps
