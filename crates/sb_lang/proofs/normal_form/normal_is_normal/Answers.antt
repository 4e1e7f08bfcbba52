use Rattle.sb_lang.proofs.NormalFormFacts.{is_normal-normal}
use Rattle.sb_lang.proofs.normal_form.normal_is_normal.Goals as goal

pub returns : goal.returns
returns c = is_normal-normal
