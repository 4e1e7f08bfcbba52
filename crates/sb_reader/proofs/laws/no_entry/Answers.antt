use Rattle.sb_reader.proofs.FirstEntries.{no_entry}
use Rattle.sb_reader.proofs.laws.no_entry.Goals as goal

pub returns : goal.returns
returns c = no_entry
