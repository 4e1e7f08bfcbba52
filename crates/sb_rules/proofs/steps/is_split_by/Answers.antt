use Rattle.std.proofs.Common.{false, nat_lt, length, refl}
use Rattle.sb_lit.specs.declared.clause.Lit.{Lit}
use Rattle.sb_regex.proofs.CallerLemmas.{extends_same, extends_more}
use Rattle.sb_atoms.proofs.CallerLemmas.{regexes_kept}
use Rattle.sb_rules.specs.Stepping.{is_split_with}
use Rattle.sb_rules.proofs.Emptied.{at-literal}
use Rattle.sb_rules.proofs.Gated.{any_none}
use Rattle.sb_rules.proofs.Trying.{found_there, not_there}
use Rattle.sb_rules.proofs.steps.is_split_by.Goals as goal

pub is_split_with-requires-clause-between : goal.is_split_with-requires-clause-between
is_split_with-requires-clause-between c =
    at-literal (λ l. nat_lt l.atom (length c.args.atoms.now)) c.args.clause.now c.loop-literal.literal-index _
    c.requires.known c.loop-literal-test.true

pub is_split_with-requires-clause-regexes : goal.is_split_with-requires-clause-regexes
is_split_with-requires-clause-regexes c =
    regexes_kept c.args.arena.now c.loop-literal.arena c.args.atoms.now c.loop-literal.invariant.extends
    c.requires.regexes

pub returns-then-branch-clause-ok : goal.returns-then-branch-clause-ok
returns-then-branch-clause-ok c =
    let d : Lit = record { atom = 0; positive = false } in
    found_there c.args.arena.now c.loop-literal.arena c.args.atoms.now
    (λ xs. is_split_with xs c.args.clause.now c.args.one c.args.other) c.args.clause.now
    c.loop-literal.literal-index d c.in_ok-is_split_with.field-0 c.loop-literal.invariant.extends
    c.requires.regexes c.loop-literal-test.true c.loop-literal.invariant.so c.in_ok-is_split_with.ensures.ok false
    c.if-branch.true

pub loop-literal-preserved : goal.loop-literal-preserved
loop-literal-preserved c =
    let d : Lit = record { atom = 0; positive = false } in
    record {
      extends = extends_more c.args.arena.now c.loop-literal.arena c.is_split_with.new.arena
          c.loop-literal.invariant.extends c.is_split_with.ensures.extends;
      so = not_there c.args.arena.now c.loop-literal.arena c.args.atoms.now
          (λ xs. is_split_with xs c.args.clause.now c.args.one c.args.other) c.args.clause.now
          c.loop-literal.literal-index d c.in_ok-is_split_with.field-0 c.loop-literal.invariant.extends
          c.requires.regexes c.loop-literal-test.true c.loop-literal.invariant.so
          c.in_ok-is_split_with.ensures.ok c.if-branch.false;
    }

pub returns-clause-ok : goal.returns-clause-ok
returns-clause-ok c =
    any_none _ c.args.clause.now c.loop-literal.literal-index false c.loop-literal-test.false
    c.loop-literal.invariant.so refl

pub returns-then-branch-clause-extends : goal.returns-then-branch-clause-extends
returns-then-branch-clause-extends c =
    extends_more c.args.arena.now c.loop-literal.arena c.is_split_with.new.arena c.loop-literal.invariant.extends
    c.is_split_with.ensures.extends

pub returns-in_err-is_split_with-clause-extends : goal.returns-in_err-is_split_with-clause-extends
returns-in_err-is_split_with-clause-extends c =
    extends_more c.args.arena.now c.loop-literal.arena c.is_split_with.new.arena c.loop-literal.invariant.extends
    c.is_split_with.ensures.extends

pub loop-literal-init : goal.loop-literal-init
loop-literal-init c = record { extends = extends_same _; so = refl }
