use Rattle.sb_rulebook.proofs.KeptFacts.{counting_again_keeps_order}
use Rattle.sb_rulebook.proofs.laws.counting_again_keeps_order.Goals as goal

pub returns : goal.returns
returns c = counting_again_keeps_order
