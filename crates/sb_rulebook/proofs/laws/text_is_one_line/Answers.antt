use Rattle.sb_rulebook.proofs.ReadLines.{text_is_one_line}
use Rattle.sb_rulebook.proofs.laws.text_is_one_line.Goals as goal

pub returns : goal.returns
returns c = text_is_one_line
