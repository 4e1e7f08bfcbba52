use Rattle.sb_rulebook.proofs.JudgingFacts.{takes_first_lines}
use Rattle.sb_rulebook.proofs.laws.check_takes_first_lines.Goals as goal

pub returns : goal.returns
returns c = takes_first_lines
