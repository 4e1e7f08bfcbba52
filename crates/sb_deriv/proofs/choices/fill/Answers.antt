use Rattle.std.proofs.Common.{ℕ, List, ◌∷◌, [], ◌++◌, refl, ap, arith, subst, ◌∙◌}
use Rattle.std.proofs.lemmas.Result.{IfOk-from_err}
use Rattle.sb_deriv.specs.Choices.{AreChosen}
use Rattle.sb_deriv.proofs.Choosing.{sweeping_init, sweeping_step, swept}
use Rattle.sb_deriv.proofs.choices.fill.Goals as goal

pub loop-first-init : goal.loop-first-init
loop-first-init c = (
  refl,
  sweeping_init c.args.constants.now c.args.operation.now c.args.maps.now.items c.args.choices.now c.requires,
)

pub returns-in_err-end : goal.returns-in_err-end
returns-in_err-end c =
    let x = c.from_residual in
    record { whole = IfOk-from_err x.result _ x.ensures.0; values = IfOk-from_err x.result _ x.ensures.0 }

pub returns-in_err-push : goal.returns-in_err-push
returns-in_err-push c =
    let x = c.from_residual-in_err-push in
    record { whole = IfOk-from_err x.result _ x.ensures.0; values = IfOk-from_err x.result _ x.ensures.0 }

pub loop-first-preserved : goal.loop-first-preserved
loop-first-preserved c = (
  c.in_ok-end.ensures.same ∙ c.loop-first.invariant.0,
  sweeping_step c.args.constants.now c.args.operation.now c.args.maps.now.items c.loop-first.choices c.push.new.self
      c.loop-first.first c.in_ok-end.end c.choose.new.ids.items c.loop-first.invariant.1
      (subst (λ (ms : List (List (ℕ × ℕ))). AreChosen c.args.constants.now c.args.operation.now ms c.loop-first.first
      c.in_ok-end.end c.choose.new.ids.items) c.loop-first.invariant.0 c.in_ok-end.ensures.chosen)
      (c.in_ok-push.ensures ∙ ap (λ x. c.loop-first.choices ++ (c.loop-first.first, x) ∷ []) c.as_slice.ensures.value),
)

pub returns : goal.returns
returns c =
    let all = swept c.args.constants.now c.args.operation.now c.args.maps.now.items c.loop-first.choices
    c.loop-first.first c.loop-first.invariant.1 (omega (arith, c.loop-first-test.false)) in
    record { whole = all.0; values = all.1 }
