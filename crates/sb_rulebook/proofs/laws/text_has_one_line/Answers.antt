use Rattle.sb_rulebook.proofs.TextFacts.{text_has_one_line}
use Rattle.sb_rulebook.proofs.laws.text_has_one_line.Goals as goal

pub returns : goal.returns
returns c = text_has_one_line
