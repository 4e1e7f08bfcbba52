use Rattle.sb_reader.proofs.FirstEntries.{beginning_stays, beginning_grows, beginning_is_first}
use Rattle.sb_reader.proofs.laws.beginning.Goals as goal

pub returns-clause-stays : goal.returns-clause-stays
returns-clause-stays c = beginning_stays

pub returns-clause-grows : goal.returns-clause-grows
returns-clause-grows c = beginning_grows

pub returns-clause-first : goal.returns-clause-first
returns-clause-first c = beginning_is_first
