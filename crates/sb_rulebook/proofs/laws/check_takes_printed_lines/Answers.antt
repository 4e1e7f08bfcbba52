use Rattle.sb_rulebook.proofs.PrintedFacts.{check_takes_printed_lines}
use Rattle.sb_rulebook.proofs.laws.check_takes_printed_lines.Goals as goal

pub returns : goal.returns
returns c = check_takes_printed_lines
