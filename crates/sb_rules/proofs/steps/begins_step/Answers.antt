use Rattle.std.proofs.Common.{false, nat_lt, length, refl, sym, ◌∙◌}
use Rattle.sb_lit.specs.declared.clause.Lit.{Lit}
use Rattle.sb_regex.proofs.CallerLemmas.{extends_same, extends_more}
use Rattle.std.proofs.lemmas.Bool.{or_left}
use Rattle.sb_rulebook.specs.Splits.{is_step_of}
use Rattle.sb_rules.proofs.Emptied.{at-literal}
use Rattle.sb_rules.proofs.Gated.{any_none}
use Rattle.sb_rules.proofs.Trying.{found_there, not_there}
use Rattle.sb_rules.proofs.steps.begins_step.Goals as goal

pub is_ended_by-requires-clause-regexes : goal.is_ended_by-requires-clause-regexes
is_ended_by-requires-clause-regexes c = c.requires.ready.regexes

pub returns-then-is_ended_by-clause-ok : goal.returns-then-is_ended_by-clause-ok
returns-then-is_ended_by-clause-ok c = sym (or_left _ _ (sym c.is_ended_by.ensures ∙ c.if-is_ended_by.true))

pub is_step_of-requires-clause-other : goal.is_step_of-requires-clause-other
is_step_of-requires-clause-other c =
    at-literal (λ l. nat_lt l.atom (length c.args.atoms.now)) c.args.clause.now c.loop-literal.literal-index _
    c.requires.known c.loop-literal-test.true

pub returns-then-branch-clause-ok : goal.returns-then-branch-clause-ok
returns-then-branch-clause-ok c =
    let d : Lit = record { atom = 0; positive = false } in
    found_there c.args.arena.now c.loop-literal.arena c.args.atoms.now
    (λ xs. is_step_of xs c.args.clause.now c.args.one) c.args.clause.now c.loop-literal.literal-index d
    c.in_ok-is_step_of.field-0 c.loop-literal.invariant.extends c.requires.ready.regexes c.loop-literal-test.true
    c.loop-literal.invariant.so c.in_ok-is_step_of.ensures.ok _ c.if-branch.true

pub loop-literal-preserved : goal.loop-literal-preserved
loop-literal-preserved c =
    let d : Lit = record { atom = 0; positive = false } in
    record {
      extends = extends_more c.args.arena.now c.loop-literal.arena c.is_step_of.new.arena
          c.loop-literal.invariant.extends c.is_step_of.ensures.extends;
      ready = c.is_step_of.ensures.ready;
      so = not_there c.args.arena.now c.loop-literal.arena c.args.atoms.now
          (λ xs. is_step_of xs c.args.clause.now c.args.one) c.args.clause.now c.loop-literal.literal-index d
          c.in_ok-is_step_of.field-0 c.loop-literal.invariant.extends c.requires.ready.regexes
          c.loop-literal-test.true c.loop-literal.invariant.so c.in_ok-is_step_of.ensures.ok c.if-branch.false;
    }

pub returns-clause-ok : goal.returns-clause-ok
returns-clause-ok c =
    any_none _ c.args.clause.now c.loop-literal.literal-index _ c.loop-literal-test.false
    c.loop-literal.invariant.so (sym c.is_ended_by.ensures ∙ c.if-is_ended_by.false)

pub returns-then-branch-clause-extends : goal.returns-then-branch-clause-extends
returns-then-branch-clause-extends c =
    extends_more c.args.arena.now c.loop-literal.arena c.is_step_of.new.arena c.loop-literal.invariant.extends
    c.is_step_of.ensures.extends

pub returns-in_err-is_step_of-clause-extends : goal.returns-in_err-is_step_of-clause-extends
returns-in_err-is_step_of-clause-extends c =
    extends_more c.args.arena.now c.loop-literal.arena c.is_step_of.new.arena c.loop-literal.invariant.extends
    c.is_step_of.ensures.extends

pub returns-then-is_ended_by-clause-extends : goal.returns-then-is_ended_by-clause-extends
returns-then-is_ended_by-clause-extends c = extends_same _

pub loop-literal-init : goal.loop-literal-init
loop-literal-init c = record { extends = extends_same _; ready = c.requires.ready; so = refl }
