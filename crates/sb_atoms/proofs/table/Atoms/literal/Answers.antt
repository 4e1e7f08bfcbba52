use Rattle.sb_proof.specs.Lines.{atom_in}
use Rattle.sb_atoms.proofs.Translating.{literal_there, literal_missing}
use Rattle.sb_atoms.proofs.table.Atoms.literal.Goals as goal

pub returns-in-Some-clause-ok : goal.returns-in-Some-clause-ok
returns-in-Some-clause-ok c =
    literal_there c.order_tells_apart.ensures c.args.adds c.args.self.now (atom_in c.args.atom) c.in-Some.id
    c.positive.result c.atoms_each_once.ensures c.in-Some.ensures c.positive.ensures

pub returns-clause-ok : goal.returns-clause-ok
returns-clause-ok c =
    literal_missing c.order_tells_apart.ensures c.args.adds c.args.self.now (atom_in c.args.atom) c.if-adds.false
    c.in-None.ensures
