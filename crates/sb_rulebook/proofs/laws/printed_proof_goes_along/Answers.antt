use Rattle.sb_rulebook.proofs.PrintedFacts.{printed_proof_goes_along}
use Rattle.sb_rulebook.proofs.laws.printed_proof_goes_along.Goals as goal

pub returns : goal.returns
returns c = printed_proof_goes_along
