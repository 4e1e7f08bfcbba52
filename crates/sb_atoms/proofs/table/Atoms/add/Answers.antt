use Rattle.std.proofs.Common.{ap, slice_get, ◌∙◌}
use Rattle.sb_atoms.specs.Numbered.{numbered_atoms}
use Rattle.sb_atoms.proofs.AtomEq.{decides, same}
use Rattle.sb_atoms.proofs.TableFacts.{added, named, with_one}
use Rattle.sb_atoms.proofs.table.Atoms.add.Goals as goal

pub invariant_of-self-2 : goal.invariant_of-self-2
invariant_of-self-2 c =
    added same decides c.self.inside.atoms.keys c.insert_full.new.self.keys c.args.atom c.requires c.self.invariant
    c.in_ok-number.ensures.keys

pub returns-clause-ok : goal.returns-clause-ok
returns-clause-ok c =
    ap (slice_get (numbered_atoms c.insert_full.new.self.keys)) c.new.ensures
    ∙ named same decides c.insert_full.new.self.keys c.args.atom c.in_ok-number.number c.requires
    c.in_ok-number.ensures.stored

pub returns-clause-grows : goal.returns-clause-grows
returns-clause-grows c =
    with_one same decides c.args.self.now c.self.inside.atoms.keys c.insert_full.new.self.keys c.args.atom
    c.self.view_is c.in_ok-number.ensures.keys
