use Rattle.sb_proof.specs.Lines.{atom_in}
use Rattle.sb_atoms.specs.Numbered.{atoms_in}
use Rattle.sb_rules.proofs.Trying.{ended_first, ended_lacks}
use Rattle.sb_rules.proofs.steps.is_ended_by.Goals as goal

pub is_end-requires : goal.is_end-requires
is_end-requires c = c.requires.regexes _ _ c.atom_of.ensures

pub returns-then-is_these : goal.returns-then-is_these
returns-then-is_these c =
    ended_first c.args.arena.now c.args.atoms.now c.args.clause.now c.args.one (atom_in c.atom_of.result.now)
    c.is_these.result c.is_end.result c.atom_of.ensures c.is_these.ensures c.is_end.ensures c.if-is_these.true

pub returns-else-is_these : goal.returns-else-is_these
returns-else-is_these c =
    ended_lacks (atoms_in c.args.arena.now c.args.atoms.now) c.args.clause.now c.args.one c.is_these.result
    c.is_these.ensures c.if-is_these.false
