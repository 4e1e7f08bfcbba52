use Rattle.sb_lang.proofs.NormalFormFacts.{is_normal-nd}
use Rattle.sb_lang.proofs.normal_form.derivative_is_normal.Goals as goal

pub returns : goal.returns
returns c = is_normal-nd
