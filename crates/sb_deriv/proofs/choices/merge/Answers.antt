use Rattle.std.proofs.Common.{◌∷◌, [], ◌++◌, min, ap, ap₂, arith, ◌∙◌}
use Rattle.std.proofs.lemmas.Result.{IfOk-from_err}
use Rattle.sb_deriv.specs.Choices.{joined}
use Rattle.sb_deriv.proofs.Choosing.{nothing_joins}
use Rattle.sb_deriv.proofs.Merging.{merge_init, merge_step, merged, next_grows}
use Rattle.sb_deriv.proofs.choices.merge.Goals as goal

pub loop-first-init : goal.loop-first-init
loop-first-init c = merge_init (joined c.args.constants.now c.args.operation.now) c.args.left.now c.args.right.now _
    (nothing_joins c.args.constants.now c.args.operation.now) c.requires.left c.requires.right c.in_ok-choices.ensures

pub returns-clause-whole : goal.returns-clause-whole
returns-clause-whole c =
    (merged _ c.args.left.now c.args.right.now _ _ _ _ c.loop-first.invariant
    (omega (arith, c.loop-first-test.false))).0

pub returns-clause-values : goal.returns-clause-values
returns-clause-values c =
    (merged _ c.args.left.now c.args.right.now _ _ _ _ c.loop-first.invariant
    (omega (arith, c.loop-first-test.false))).1

pub loop-first-smaller : goal.loop-first-smaller
loop-first-smaller c =
    let n = c.min-first.ensures ∙ ap₂ min c.next_first.ensures c.next_first-in-loop-first.ensures in
    let g = next_grows (joined c.args.constants.now c.args.operation.now) c.args.left.now c.args.right.now
    c.loop-first.choices c.loop-first.i c.loop-first.j c.loop-first.first c.past-i.result c.past-j.result
    c.min-first.result c.loop-first.invariant (omega (arith, c.loop-first-test.true)) c.past-i.ensures
    c.past-j.ensures n in
    omega (arith, g, c.loop-first-test.true)

pub loop-first-preserved : goal.loop-first-preserved
loop-first-preserved c =
    let n = c.min-first.ensures ∙ ap₂ min c.next_first.ensures c.next_first-in-loop-first.ensures in
    let v = ap₂ (joined c.args.constants.now c.args.operation.now) c.latest.ensures c.latest-in-loop-first.ensures in
    let o = c.in_ok-push.ensures
    ∙ ap (λ x. c.loop-first.choices ++ (c.loop-first.first, x) ∷ []) (c.deref.ensures.value ∙ c.in_ok-join.ensures ∙ v)
    in
    merge_step (joined c.args.constants.now c.args.operation.now) c.args.left.now c.args.right.now c.loop-first.choices
    c.push.new.self c.loop-first.i c.loop-first.j c.loop-first.first c.past-i.result c.past-j.result c.min-first.result
    c.loop-first.invariant (omega (arith, c.loop-first-test.true)) c.past-i.ensures c.past-j.ensures o n

pub returns-in_err-choices : goal.returns-in_err-choices
returns-in_err-choices c =
    let x = c.from_residual in
    record {
      whole = IfOk-from_err x.result _ x.ensures.0;
      values = IfOk-from_err x.result _ x.ensures.0;
    }

pub returns-in_err-join : goal.returns-in_err-join
returns-in_err-join c =
    let x = c.from_residual-in_err-join in
    record {
      whole = IfOk-from_err x.result _ x.ensures.0;
      values = IfOk-from_err x.result _ x.ensures.0;
    }

pub returns-in_err-push : goal.returns-in_err-push
returns-in_err-push c =
    let x = c.from_residual-in_err-push in
    record {
      whole = IfOk-from_err x.result _ x.ensures.0;
      values = IfOk-from_err x.result _ x.ensures.0;
    }
