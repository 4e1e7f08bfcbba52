use Rattle.sb_atoms.proofs.AtomEq.{decides, same}
use Rattle.sb_atoms.proofs.TableFacts.{found, missing}
use Rattle.sb_atoms.proofs.table.Atoms.find.Goals as goal

pub returns-in-Some : goal.returns-in-Some
returns-in-Some c =
    found same decides c.args.self.now c.self.inside.atoms.keys c.args.atom.now c.get_index_of.result c.in-Some.number
    c.new.result c.requires c.self.view_is c.get_index_of.ensures.index c.in-Some.is c.new.ensures

pub returns-in-None : goal.returns-in-None
returns-in-None c =
    missing same decides c.args.self.now c.self.inside.atoms.keys c.args.atom.now c.get_index_of.result c.requires
    c.self.view_is c.get_index_of.ensures.found c.in-None.is
