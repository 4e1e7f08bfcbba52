use Rattle.sb_reader.proofs.Readings.{entry_stays}
use Rattle.sb_reader.proofs.laws.entry_stays.Goals as goal

pub returns : goal.returns
returns c = entry_stays
