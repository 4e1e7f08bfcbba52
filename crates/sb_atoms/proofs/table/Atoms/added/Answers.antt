use Rattle.std.proofs.Common.{true}
use Rattle.sb_proof.specs.Lines.{atom_in}
use Rattle.sb_atoms.proofs.Translating.{literal_there}
use Rattle.sb_atoms.proofs.table.Atoms.added.Goals as goal

pub returns-clause-ok : goal.returns-clause-ok
returns-clause-ok c =
    literal_there c.order_tells_apart.ensures true c.add.new.self (atom_in c.args.atom) c.in_ok-id.id c.positive.result
    c.atoms_each_once.ensures c.in_ok-id.ensures.ok c.positive.ensures
