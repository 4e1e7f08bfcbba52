use Rattle.sb_rulebook.proofs.NumberFacts.{atom_is_there_by_number}
use Rattle.sb_rulebook.proofs.laws.atom_is_there_by_number.Goals as goal

pub returns : goal.returns
returns c = atom_is_there_by_number
