use Rattle.sb_rulebook.proofs.JudgingFacts.{lines_in_order}
use Rattle.sb_rulebook.proofs.laws.lines_are_taken_in_order.Goals as goal

pub returns : goal.returns
returns c = lines_in_order
