use Rattle.sb_rulebook.proofs.ReadLines.{text_is_read}
use Rattle.sb_rulebook.proofs.laws.text_is_read.Goals as goal

pub returns : goal.returns
returns c = text_is_read
