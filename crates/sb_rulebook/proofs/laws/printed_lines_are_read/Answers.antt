use Rattle.sb_rulebook.proofs.LineFacts.{printed_lines_are_read}
use Rattle.sb_rulebook.proofs.laws.printed_lines_are_read.Goals as goal

pub returns : goal.returns
returns c = printed_lines_are_read
