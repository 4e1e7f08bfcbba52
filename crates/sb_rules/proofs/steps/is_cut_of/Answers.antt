use Rattle.sb_regex.proofs.CallerLemmas.{extends_same}
use Rattle.sb_proof.specs.Lines.{atom_in}
use Rattle.sb_rulebook.specs.Atoms.{is_well_formed}
use Rattle.sb_atoms.specs.Numbered.{atoms_in}
use Rattle.sb_rules.proofs.Parting.{ok_for}
use Rattle.sb_rules.proofs.Trying.{cut_lacks, cut_found, ready_on, test_named}
use Rattle.sb_rules.proofs.steps.is_cut_of.Goals as goal

pub returns-then-not-is_these-clause-ok : goal.returns-then-not-is_these-clause-ok
returns-then-not-is_these-clause-ok c =
    cut_lacks (atoms_in c.args.arena.now c.args.atoms.now) c.args.clause.now c.args.one c.args.other
    c.is_these.result c.is_these.ensures c.if-not-is_these.true

pub is_cut-requires-clause-one : goal.is_cut-requires-clause-one
is_cut-requires-clause-one c = c.requires.ready.regexes _ _ c.atom_of-first.ensures

pub is_cut-requires-clause-other : goal.is_cut-requires-clause-other
is_cut-requires-clause-other c = c.requires.ready.regexes _ _ c.atom_of-second.ensures

pub is_cut-requires-clause-formed : goal.is_cut-requires-clause-formed
is_cut-requires-clause-formed c =
    test_named is_well_formed c.args.atoms.now c.args.one.atom (atom_in c.atom_of-first.result.now)
    c.requires.ready.formed c.atom_of-first.ensures

pub is_cut-requires-clause-right : goal.is_cut-requires-clause-right
is_cut-requires-clause-right c = c.requires.ready.right

pub returns-clause-ok : goal.returns-clause-ok
returns-clause-ok c =
    ok_for c.is_cut.result _ _
    (cut_found c.args.arena.now c.args.atoms.now c.args.clause.now c.args.one c.args.other
    (atom_in c.atom_of-first.result.now) (atom_in c.atom_of-second.result.now) c.is_these.result
    c.atom_of-first.ensures c.atom_of-second.ensures c.is_these.ensures c.if-not-is_these.false)
    c.is_cut.ensures.ok

pub returns-clause-ready : goal.returns-clause-ready
returns-clause-ready c =
    ready_on c.args.atoms.now c.args.arena.now c.is_cut.new.arena c.args.plain.now c.is_cut.new.plain
    c.requires.ready c.is_cut.ensures.extends c.is_cut.ensures.right

pub returns-then-not-is_these-clause-extends : goal.returns-then-not-is_these-clause-extends
returns-then-not-is_these-clause-extends c = extends_same _
