use Rattle.sb_sound.proofs.OutcomeFacts.{one_outcome}
use Rattle.sb_sound.proofs.outcome.one_outcome.Goals as goal

pub returns : goal.returns
returns c = one_outcome c.one_entry.ensures.one c.no_entry.ensures
