use Rattle.sb_sound.proofs.Exits.{solved_entries, whole_entries}
use Rattle.sb_sound.proofs.outcome.solved_entries.Goals as goal

pub returns-clause-to_exit : goal.returns-clause-to_exit
returns-clause-to_exit c = solved_entries c.beginning.ensures.stays

pub returns-clause-whole : goal.returns-clause-whole
returns-clause-whole c = whole_entries
