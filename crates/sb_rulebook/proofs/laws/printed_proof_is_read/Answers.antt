use Rattle.sb_rulebook.proofs.LineFacts.{printed_proof_is_read}
use Rattle.sb_rulebook.proofs.laws.printed_proof_is_read.Goals as goal

pub returns : goal.returns
returns c = printed_proof_is_read
