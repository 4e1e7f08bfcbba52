use Rattle.sb_lang.proofs.CutFacts.{cut_is_some_cut}
use Rattle.sb_lang.proofs.languages.cut_is_some_cut.Goals as goal

pub returns : goal.returns
returns c = cut_is_some_cut
