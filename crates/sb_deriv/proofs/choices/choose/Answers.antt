use Rattle.std.proofs.Common.{ℕ, List, [], ◌<◌, length, get_or, refl, arith, sym, subst, ◌∙◌}
use Rattle.std.proofs.lemmas.List.{get_or_default}
use Rattle.std.proofs.lemmas.Result.{IfOk-from_err}
use Rattle.sb_deriv.specs.Choices.{IsSpan}
use Rattle.sb_deriv.proofs.Choosing.{choosing_init, choosing_step, absorbed, chosen}
use Rattle.sb_deriv.proofs.choices.choose.Goals as goal

pub loop-i-init : goal.loop-i-init
loop-i-init c = (
  refl,
  choosing_init c.args.constants.now c.args.operation.now c.args.maps.now.items c.args.c
      c.clear.new.self.items c.requires c.clear.ensures.items,
)

pub returns-then-absorbs-clause-same : goal.returns-then-absorbs-clause-same
returns-then-absorbs-clause-same c = c.span_of-stays.ensures.same ∙ c.loop-i.invariant.0

pub returns-then-absorbs-clause-chosen : goal.returns-then-absorbs-clause-chosen
returns-then-absorbs-clause-chosen c =
    let l : c.loop-i.i < length c.args.maps.now.items =
    omega (arith, c.len-i-end.ensures, c.loop-i-test.true, c.args.maps.now.ok)
    in
    absorbed c.args.constants.now c.args.operation.now c.args.maps.now.items c.loop-i.i c.args.c
    c.span_of-stays.result.0 c.span_of-stays.result.1 (get_or c.args.maps.now.items c.loop-i.i [])
    c.clear-then-absorbs.new.self.items c.push.new.self.items l
    (get_or_default c.args.maps.now.items c.loop-i.i [] (get_or c.args.maps.now.items c.loop-i.i []) l)
    (subst (λ (ms : List (List (ℕ × ℕ))). IsSpan (get_or ms c.loop-i.i []) c.args.c c.span_of-stays.result.0
    c.span_of-stays.result.1) c.loop-i.invariant.0 c.span_of-stays.ensures.span)
    (sym c.absorbs.ensures ∙ c.if-absorbs.true) c.clear-then-absorbs.ensures.items c.in_ok-push.ensures.items

pub loop-i-preserved : goal.loop-i-preserved
loop-i-preserved c =
    let l : c.loop-i.i < length c.args.maps.now.items =
    omega (arith, c.len-i-end.ensures, c.loop-i-test.true, c.args.maps.now.ok)
    in (
      c.span_of-stays.ensures.same ∙ c.loop-i.invariant.0,
      choosing_step c.args.constants.now c.args.operation.now c.args.maps.now.items c.loop-i.i c.args.c c.loop-i.end
          c.min-end.result c.span_of-stays.result.0 c.span_of-stays.result.1
          (get_or c.args.maps.now.items c.loop-i.i []) c.loop-i.ids.items c.keep.new.ids.items c.loop-i.invariant.1 l
          (get_or_default c.args.maps.now.items c.loop-i.i [] (get_or c.args.maps.now.items c.loop-i.i []) l)
          (subst (λ (ms : List (List (ℕ × ℕ))). IsSpan (get_or ms c.loop-i.i []) c.args.c c.span_of-stays.result.0
          c.span_of-stays.result.1) c.loop-i.invariant.0 c.span_of-stays.ensures.span)
          (sym c.absorbs.ensures ∙ c.if-absorbs.false) c.in_ok-keep.ensures c.min-end.ensures,
    )

pub returns-clause-same : goal.returns-clause-same
returns-clause-same c = c.loop-i.invariant.0

pub returns-clause-chosen : goal.returns-clause-chosen
returns-clause-chosen c =
    chosen c.args.constants.now c.args.operation.now c.args.maps.now.items c.loop-i.i c.args.c c.loop-i.end
    c.loop-i.ids.items c.loop-i.invariant.1
    (omega (arith, c.len-i-end.ensures, c.loop-i-test.false, c.args.maps.now.ok))

pub returns-in_err-push : goal.returns-in_err-push
returns-in_err-push c =
    let x = c.from_residual in
    record {
      same = IfOk-from_err x.result _ x.ensures.0;
      chosen = IfOk-from_err x.result _ x.ensures.0;
    }

pub returns-in_err-keep : goal.returns-in_err-keep
returns-in_err-keep c =
    let x = c.from_residual-in_err-keep in
    record {
      same = IfOk-from_err x.result _ x.ensures.0;
      chosen = IfOk-from_err x.result _ x.ensures.0;
    }
