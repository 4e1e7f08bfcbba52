use Rattle.sb_rulebook.proofs.TextFacts.{line_has_text}
use Rattle.sb_rulebook.proofs.laws.line_has_one_text.Goals as goal

pub returns : goal.returns
returns c = line_has_text
