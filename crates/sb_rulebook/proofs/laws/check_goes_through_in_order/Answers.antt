use Rattle.sb_rulebook.proofs.JudgingFacts.{check_in_order}
use Rattle.sb_rulebook.proofs.laws.check_goes_through_in_order.Goals as goal

pub returns : goal.returns
returns c = check_in_order
