use Rattle.sb_solve.proofs.Words.{◌∙◌}
use Rattle.sb_proof.specs.Lines.{atom_in}
use Rattle.sb_solve.proofs.Gathered.{parts_there, simple_there}
use Rattle.sb_solve.proofs.gather.add_parts.Goals as goal

pub returns-clause-parts : goal.returns-clause-parts
returns-clause-parts c =
    parts_there c.add_all.result c.args.atoms.now c.args.atom c.of-id.result (atom_in c.describe.result.now)
    c.args.found.now.keys c.add_all.new.found.keys c.deref.result.now c.of-id.ensures c.describe.ensures.names
    (c.deref.ensures ∙ c.in_ok-literals.ensures) c.add_all.ensures

pub returns-clause-simple : goal.returns-clause-simple
returns-clause-simple c =
    simple_there c.args.atoms.now c.args.atom c.of-id.result (atom_in c.describe.result.now) c.of-id.ensures
    c.describe.ensures.names c.describe.ensures.brought

pub returns-in_err-literals-clause-simple : goal.returns-in_err-literals-clause-simple
returns-in_err-literals-clause-simple c =
    simple_there c.args.atoms.now c.args.atom c.of-id.result (atom_in c.describe.result.now) c.of-id.ensures
    c.describe.ensures.names c.describe.ensures.brought
