use Rattle.sb_lang.proofs.ConstructorFacts.{mkrep_keeps}
use Rattle.sb_lang.proofs.constructors.mkrep_keeps_language.Goals as goal

pub returns : goal.returns
returns c = mkrep_keeps
