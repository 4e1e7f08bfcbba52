use Rattle.std.proofs.Common.{map, ap, ◌∙◌, arith}
use Rattle.sb_stack.specs.Stacked.{live_in}
use Rattle.sb_stack.proofs.Items.{live_step, no_live_step, inside}
use Rattle.std.proofs.lemmas.List.{take_all}
use Rattle.sb_sorts.specs.Scopes.{constants_among}
use Rattle.sb_stack.proofs.value.live_constants.Goals as goal
use Rattle.sb_stack.proofs.value.live_constants.Goals.{in-Constant+in_ok-push, in_default-named}

pub loop-place-preserved : goal.loop-place-preserved
loop-place-preserved c =
    let names = c.args.scope.now.names in
    let place = c.loop-place.place in
    elim c.match-named.branch [
      | in-Constant+in_ok-push w ↦ ap (λ found. map live_in found.items) w.found-is
          ∙ live_step names place _ (record { serial = w.in-Constant.serial; sort = w.in-Constant.sort })
          c.in-Some.named.now c.loop-place.found.items _ c.in-Some.ensures w.in-Constant.is w.in_ok-push.ensures.items
          c.loop-place.invariant
      | in_default-named w ↦ ap (λ found. map live_in found.items) w.found-is
          ∙ no_live_step names place _ c.in-Some.named.now (map live_in c.loop-place.found.items)
          c.in-Some.ensures w.in_default-named.not-Constant c.loop-place.invariant
    ]

pub unreachable-requires : goal.unreachable-requires
unreachable-requires c =
    inside c.args.scope.now.names c.loop-place.place (omega (arith, c.loop-place-test.true, c.len-place-end.ensures))
    c.in_default.ensures

pub returns : goal.returns
returns c =
    c.loop-place.invariant
    ∙ ap constants_among (take_all c.loop-place.place c.args.scope.now.names
    (omega (arith, c.loop-place-test.false, c.len-place-end.ensures)))
