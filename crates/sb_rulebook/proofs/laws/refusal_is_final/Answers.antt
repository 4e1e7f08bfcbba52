use Rattle.sb_rulebook.proofs.JudgingFacts.{refusal_is_final}
use Rattle.sb_rulebook.proofs.laws.refusal_is_final.Goals as goal

pub returns : goal.returns
returns c = refusal_is_final
