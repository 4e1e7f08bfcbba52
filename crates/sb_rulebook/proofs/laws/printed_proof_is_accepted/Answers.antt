use Rattle.sb_rulebook.proofs.PrintedFacts.{printed_proof_is_accepted}
use Rattle.sb_rulebook.proofs.laws.printed_proof_is_accepted.Goals as goal

pub returns : goal.returns
returns c = printed_proof_is_accepted
