use Rattle.std.proofs.Common.{◌≡◌, ◌≤◌, true, length, subst, sym, ap, ◌∙◌, arith, rules}
use Rattle.sb_meaning.specs.Truth.{holds}
use Rattle.sb_script.specs.Brought.{is_structure}
use Rattle.sb_script.specs.Fragment.{fits}
use Rattle.sb_term.specs.Numbered.{term_at}
use Rattle.sb_regex.proofs.CallerLemmas.{extends_more}
use Rattle.sb_problem.specs.Known.{AreNormals}
use Rattle.sb_atoms.specs.Given.{GivesValues}
use Rattle.sb_models.specs.Tried.{IsOfSame, marks_of}
use Rattle.sb_models.proofs.Knowledge.{no_mark, structure_at, fits_at, true_first, true_more, false_at, passed, true_all}
use Rattle.sb_models.proofs.trying.all_hold.Goals as goal

pub returns-in_default-clause-ok : goal.returns-in_default-clause-ok
returns-in_default-clause-ok c =
    absurd (no_mark c.args.stack.now.table c.args.stack.now.assertions c.loop-place.place
    c.index-assertions-place.result (rw c.assertions-assertions.ensures.value at c.loop-place-test.true)
    (rw c.assertions-assertions.ensures.value at c.index-assertions-place.is) c.in_default.is c.requires.decided)

pub loop-place-init : goal.loop-place-init
loop-place-init c = (
  search rules,
  c.requires.normals,
  c.requires.right,
  true_first c.args.words.now c.args.truths.now c.args.stack.now.table c.args.stack.now.assertions c.args.from
      c.requires.before,
)

pub loop-place-preserved-then-may_pass : goal.loop-place-preserved-then-may_pass
loop-place-preserved-then-may_pass c =
    let low = rw c.assertions-assertions.ensures.value at c.loop-place-test.true in
    let is = rw c.assertions-assertions.ensures.value at c.index-assertions-place.is in
    let known = c.may_pass.ensures c.if-may_pass.true in (
      c.loop-place.invariant.0,
      c.loop-place.invariant.1,
      c.loop-place.invariant.2,
      true_more c.args.words.now c.args.truths.now c.args.stack.now.table c.args.stack.now.assertions c.loop-place.place
          c.index-assertions-place.result c.in-Some.id low is c.in-Some.is
          (passed c.args.words.now c.args.truths.now (marks_of c.args.changed.now) c.args.held c.args.stack.now.table
          c.args.stack.now.assertions c.loop-place.place c.index-assertions-place.result c.in-Some.id low is c.in-Some.is
          known.0
          (subst (λ ts. IsOfSame (marks_of c.args.changed.now) (term_at ts c.in-Some.id)) c.table-table.ensures known.1)
          c.requires.pass) c.loop-place.invariant.3,
    )

pub eval-requires-clause-structure : goal.eval-requires-clause-structure
eval-requires-clause-structure c =
    subst (λ ts. is_structure (term_at ts c.in-Some.id) ≡ true) (sym c.table-table.ensures)
    (structure_at c.args.stack.now.table c.args.stack.now.assertions c.loop-place.place c.index-assertions-place.result
    c.in-Some.id (rw c.assertions-assertions.ensures.value at c.loop-place-test.true)
    (rw c.assertions-assertions.ensures.value at c.index-assertions-place.is) c.in-Some.is c.requires.decided)

pub eval-requires-clause-fits : goal.eval-requires-clause-fits
eval-requires-clause-fits c =
    subst (λ ts. fits (term_at ts c.in-Some.id) ≡ true) (sym c.table-table.ensures)
    (fits_at c.args.stack.now.table c.args.stack.now.assertions c.loop-place.place c.index-assertions-place.result
    c.in-Some.id (rw c.assertions-assertions.ensures.value at c.loop-place-test.true)
    (rw c.assertions-assertions.ensures.value at c.index-assertions-place.is) c.in-Some.is c.requires.decided)

pub loop-place-preserved : goal.loop-place-preserved
loop-place-preserved c =
    let ts = c.args.stack.now.table in
    let low = rw c.assertions-assertions.ensures.value at c.loop-place-test.true in
    let is = rw c.assertions-assertions.ensures.value at c.index-assertions-place.is in (
      extends_more c.args.arena.now c.loop-place.arena c.eval.new.arena c.loop-place.invariant.0
          c.in_ok-eval.ensures.extends,
      subst (λ us. AreNormals us c.eval.new.arena c.eval.new.normals) c.table-table.ensures c.in_ok-eval.ensures.normals,
      c.in_ok-eval.ensures.right,
      true_more c.args.words.now c.args.truths.now ts c.args.stack.now.assertions c.loop-place.place
          c.index-assertions-place.result c.in-Some.id low is c.in-Some.is
          (λ v gives. sym c.if-not-branch.false ∙ (c.in_ok-eval.ensures.ok v
          (subst (λ us. GivesValues c.args.words.now c.args.truths.now v (term_at us c.in-Some.id))
          (sym c.table-table.ensures) gives)
          ∙ ap (λ us. holds (term_at us c.in-Some.id) v) c.table-table.ensures))
          c.loop-place.invariant.3,
    )

pub returns-then-not-branch-clause-ok : goal.returns-then-not-branch-clause-ok
returns-then-not-branch-clause-ok c =
    let ts = c.args.stack.now.table in
    let low = rw c.assertions-assertions.ensures.value at c.loop-place-test.true in
    let is = rw c.assertions-assertions.ensures.value at c.index-assertions-place.is in
    false_at c.args.words.now c.args.truths.now ts c.args.stack.now.assertions c.loop-place.place
    c.index-assertions-place.result c.in-Some.id low is c.in-Some.is
    (λ v gives. sym c.if-not-branch.true ∙ (c.in_ok-eval.ensures.ok v
    (subst (λ us. GivesValues c.args.words.now c.args.truths.now v (term_at us c.in-Some.id))
    (sym c.table-table.ensures) gives)
    ∙ ap (λ us. holds (term_at us c.in-Some.id) v) c.table-table.ensures))

pub returns-clause-ok : goal.returns-clause-ok
returns-clause-ok c =
    let long : length c.args.stack.now.assertions ≤ c.loop-place.place =
    omega (arith, c.loop-place-test.false, ap length c.assertions-assertions.ensures.value) in
    true_all c.args.words.now c.args.truths.now c.args.stack.now.table c.args.stack.now.assertions c.loop-place.place long
    c.loop-place.invariant.3

pub returns-then-not-branch-clause-normals : goal.returns-then-not-branch-clause-normals
returns-then-not-branch-clause-normals c =
    subst (λ us. AreNormals us c.eval.new.arena c.eval.new.normals) c.table-table.ensures c.in_ok-eval.ensures.normals

pub eval-requires-clause-normals : goal.eval-requires-clause-normals
eval-requires-clause-normals c =
    subst (λ us. AreNormals us c.loop-place.arena c.loop-place.normals) (sym c.table-table.ensures) c.loop-place.invariant.1

pub returns-in_err-eval-clause-extends : goal.returns-in_err-eval-clause-extends
returns-in_err-eval-clause-extends c =
    extends_more c.args.arena.now c.loop-place.arena c.eval.new.arena c.loop-place.invariant.0
    c.in_err-eval.ensures.extends

pub returns-then-not-branch-clause-extends : goal.returns-then-not-branch-clause-extends
returns-then-not-branch-clause-extends c =
    extends_more c.args.arena.now c.loop-place.arena c.eval.new.arena c.loop-place.invariant.0
    c.in_ok-eval.ensures.extends
