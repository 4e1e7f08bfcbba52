use Rattle.sb_rulebook.proofs.LineFacts.{texts_are_lines}
use Rattle.sb_rulebook.proofs.laws.texts_are_lines.Goals as goal

pub returns : goal.returns
returns c = texts_are_lines
