use Rattle.sb_lang.proofs.NormalFormFacts.{constructors_give_normal}
use Rattle.sb_lang.proofs.normal_form.constructors_give_normal.Goals as goal

pub returns : goal.returns
returns c = constructors_give_normal
