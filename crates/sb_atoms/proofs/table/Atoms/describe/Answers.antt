use Rattle.sb_atoms.proofs.TableFacts.{brought_there}
use Rattle.sb_atoms.proofs.table.Atoms.describe.Goals as goal

pub returns-clause-brought : goal.returns-clause-brought
returns-clause-brought c =
    brought_there c.self.inside.atoms.keys c.number.result c.index.result.now c.self.invariant.1 c.index.ensures
