use Rattle.sb_sound.proofs.OutcomeFacts.{same_events}
use Rattle.sb_sound.proofs.outcome.same_events.Goals as goal

pub returns : goal.returns
returns c = same_events c.one_entry.ensures.one c.no_entry.ensures
