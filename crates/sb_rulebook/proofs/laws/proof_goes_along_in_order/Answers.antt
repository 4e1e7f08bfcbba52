use Rattle.sb_rulebook.proofs.JudgingFacts.{proof_in_order}
use Rattle.sb_rulebook.proofs.laws.proof_goes_along_in_order.Goals as goal

pub returns : goal.returns
returns c = proof_in_order
