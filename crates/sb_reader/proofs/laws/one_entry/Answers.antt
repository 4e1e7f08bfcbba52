use Rattle.sb_reader.proofs.FirstEntries.{one_entry, entry_has_bytes}
use Rattle.sb_reader.proofs.laws.one_entry.Goals as goal

pub returns-clause-one : goal.returns-clause-one
returns-clause-one c = one_entry

pub returns-clause-bytes : goal.returns-clause-bytes
returns-clause-bytes c = entry_has_bytes
