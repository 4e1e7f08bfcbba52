use Rattle.sb_rulebook.proofs.JudgingFacts.{waiting_took_all}
use Rattle.sb_rulebook.proofs.laws.waiting_check_took_all.Goals as goal

pub returns : goal.returns
returns c = waiting_took_all
