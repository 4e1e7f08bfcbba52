use Rattle.std.proofs.Common.{ap, ◌∙◌}
use Rattle.sb_regex.proofs.CallerLemmas.{extends_same, extends_more}
use Rattle.sb_rulebook.specs.Splits.{is_split_by}
use Rattle.sb_atoms.specs.Numbered.{atoms_in}
use Rattle.sb_atoms.proofs.CallerLemmas.{atoms_kept}
use Rattle.sb_rules.proofs.Parting.{ok_for}
use Rattle.sb_rules.proofs.Trying.{one_sign, by_cut, by_split, ready_on}
use Rattle.sb_rules.proofs.steps.is_step_of.Goals as goal

pub returns-then-not-differ_in_sign-clause-ok : goal.returns-then-not-differ_in_sign-clause-ok
returns-then-not-differ_in_sign-clause-ok c =
    one_sign (atoms_in c.args.arena.now c.args.atoms.now) c.args.clause.now c.args.one c.args.other
    c.differ_in_sign.result c.differ_in_sign.ensures c.if-not-differ_in_sign.true

pub returns-then-branch-clause-ok : goal.returns-then-branch-clause-ok
returns-then-branch-clause-ok c =
    by_cut (atoms_in c.args.arena.now c.args.atoms.now) c.args.clause.now c.args.one c.args.other
    c.differ_in_sign.result c.differ_in_sign.ensures c.in_ok-is_cut_of.field-0 c.if-not-differ_in_sign.false
    c.in_ok-is_cut_of.ensures.ok c.if-branch.true

pub is_split_by-requires-clause-regexes : goal.is_split_by-requires-clause-regexes
is_split_by-requires-clause-regexes c = c.is_cut_of.ensures.ready.regexes

pub returns-clause-ok : goal.returns-clause-ok
returns-clause-ok c =
    let old = c.args.arena.now in
    ok_for c.is_split_by.result _ _
    (ap (λ xs. is_split_by xs c.args.clause.now c.args.one c.args.other)
    (atoms_kept old c.is_cut_of.new.arena c.args.atoms.now c.is_cut_of.ensures.extends c.requires.ready.regexes)
    ∙ by_split (atoms_in old c.args.atoms.now) c.args.clause.now c.args.one c.args.other c.differ_in_sign.result
    c.differ_in_sign.ensures c.in_ok-is_cut_of.field-0 c.if-not-differ_in_sign.false c.in_ok-is_cut_of.ensures.ok
    c.if-branch.false) c.is_split_by.ensures.ok

pub returns-clause-extends : goal.returns-clause-extends
returns-clause-extends c =
    extends_more c.args.arena.now c.is_cut_of.new.arena c.is_split_by.new.arena c.is_cut_of.ensures.extends
    c.is_split_by.ensures.extends

pub returns-clause-ready : goal.returns-clause-ready
returns-clause-ready c =
    let mid = c.is_cut_of.new.arena in
    let new = c.is_split_by.new.arena in
    ready_on c.args.atoms.now mid new c.is_cut_of.new.plain c.is_cut_of.new.plain c.is_cut_of.ensures.ready
    c.is_split_by.ensures.extends
    (c.right_stays.ensures mid new c.is_cut_of.new.plain c.is_split_by.ensures.extends
    c.is_cut_of.ensures.ready.right)

pub returns-then-not-differ_in_sign-clause-extends : goal.returns-then-not-differ_in_sign-clause-extends
returns-then-not-differ_in_sign-clause-extends c = extends_same _
