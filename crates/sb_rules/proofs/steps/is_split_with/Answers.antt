use Rattle.sb_regex.proofs.CallerLemmas.{extends_same}
use Rattle.sb_proof.specs.Lines.{atom_in}
use Rattle.sb_atoms.specs.Numbered.{atoms_in}
use Rattle.sb_rules.proofs.Parting.{ok_for}
use Rattle.sb_rules.proofs.Trying.{split_lacks, split_found}
use Rattle.sb_rules.proofs.steps.is_split_with.Goals as goal

pub returns-then-not-is_third-clause-ok : goal.returns-then-not-is_third-clause-ok
returns-then-not-is_third-clause-ok c =
    split_lacks (atoms_in c.args.arena.now c.args.atoms.now) c.args.clause.now c.args.one c.args.other
    c.args.between c.is_third.result c.is_third.ensures c.if-not-is_third.true

pub is_split-requires-clause-one : goal.is_split-requires-clause-one
is_split-requires-clause-one c = c.requires.regexes _ _ c.atom_of-first.ensures

pub is_split-requires-clause-between : goal.is_split-requires-clause-between
is_split-requires-clause-between c = c.requires.regexes _ _ c.atom_of-path.ensures

pub is_split-requires-clause-other : goal.is_split-requires-clause-other
is_split-requires-clause-other c = c.requires.regexes _ _ c.atom_of-second.ensures

pub returns-clause-ok : goal.returns-clause-ok
returns-clause-ok c =
    ok_for c.is_split.result _ _
    (split_found c.args.arena.now c.args.atoms.now c.args.clause.now c.args.one c.args.other c.args.between
    (atom_in c.atom_of-first.result.now) (atom_in c.atom_of-second.result.now) (atom_in c.atom_of-path.result.now)
    c.is_third.result c.atom_of-first.ensures c.atom_of-second.ensures c.atom_of-path.ensures c.is_third.ensures
    c.if-not-is_third.false) c.is_split.ensures.ok

pub returns-then-not-is_third-clause-extends : goal.returns-then-not-is_third-clause-extends
returns-then-not-is_third-clause-extends c = extends_same _
