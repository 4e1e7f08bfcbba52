use Rattle.sb_rulebook.proofs.NumberFacts.{atom_has_its_number}
use Rattle.sb_rulebook.proofs.laws.atom_has_its_number.Goals as goal

pub returns : goal.returns
returns c = atom_has_its_number c.order_tells_apart.ensures
