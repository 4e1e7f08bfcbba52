use Rattle.std.proofs.Common.{false, nat_lt, length, refl}
use Rattle.sb_lit.specs.declared.clause.Lit.{Lit}
use Rattle.sb_regex.proofs.CallerLemmas.{extends_same, extends_more}
use Rattle.sb_rules.specs.Stepping.{begins_step}
use Rattle.sb_rules.proofs.Emptied.{at-literal}
use Rattle.sb_rules.proofs.Gated.{any_none}
use Rattle.sb_rules.proofs.Trying.{found_there, not_there}
use Rattle.sb_rules.proofs.steps.begin_step.Goals as goal

pub begins_step-requires-clause-one : goal.begins_step-requires-clause-one
begins_step-requires-clause-one c =
    at-literal (λ l. nat_lt l.atom (length c.args.atoms.now)) c.args.clause.now c.loop-literal.literal-index _
    c.requires.known c.loop-literal-test.true

pub returns-then-branch-clause-ok : goal.returns-then-branch-clause-ok
returns-then-branch-clause-ok c =
    let d : Lit = record { atom = 0; positive = false } in
    found_there c.args.arena.now c.loop-literal.arena c.args.atoms.now (λ xs. begins_step xs c.args.clause.now)
    c.args.clause.now c.loop-literal.literal-index d c.in_ok-begins_step.field-0 c.loop-literal.invariant.extends
    c.requires.ready.regexes c.loop-literal-test.true c.loop-literal.invariant.so c.in_ok-begins_step.ensures.ok
    false c.if-branch.true

pub loop-literal-preserved : goal.loop-literal-preserved
loop-literal-preserved c =
    let d : Lit = record { atom = 0; positive = false } in
    record {
      extends = extends_more c.args.arena.now c.loop-literal.arena c.begins_step.new.arena
          c.loop-literal.invariant.extends c.begins_step.ensures.extends;
      ready = c.begins_step.ensures.ready;
      so = not_there c.args.arena.now c.loop-literal.arena c.args.atoms.now (λ xs. begins_step xs c.args.clause.now)
          c.args.clause.now c.loop-literal.literal-index d c.in_ok-begins_step.field-0
          c.loop-literal.invariant.extends c.requires.ready.regexes c.loop-literal-test.true
          c.loop-literal.invariant.so c.in_ok-begins_step.ensures.ok c.if-branch.false;
    }

pub returns-clause-ok : goal.returns-clause-ok
returns-clause-ok c =
    any_none _ c.args.clause.now c.loop-literal.literal-index false c.loop-literal-test.false
    c.loop-literal.invariant.so refl

pub returns-then-branch-clause-extends : goal.returns-then-branch-clause-extends
returns-then-branch-clause-extends c =
    extends_more c.args.arena.now c.loop-literal.arena c.begins_step.new.arena c.loop-literal.invariant.extends
    c.begins_step.ensures.extends

pub returns-in_err-begins_step-clause-extends : goal.returns-in_err-begins_step-clause-extends
returns-in_err-begins_step-clause-extends c =
    extends_more c.args.arena.now c.loop-literal.arena c.begins_step.new.arena c.loop-literal.invariant.extends
    c.begins_step.ensures.extends

pub loop-literal-init : goal.loop-literal-init
loop-literal-init c = record { extends = extends_same _; ready = c.requires.ready; so = refl }
