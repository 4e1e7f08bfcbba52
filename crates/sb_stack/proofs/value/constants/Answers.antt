use Rattle.std.proofs.Common.{map, ap, ◌∙◌, arith}
use Rattle.sb_stack.specs.Values.{constant_in}
use Rattle.sb_stack.proofs.Items.{constant_step, mark_step, inside}
use Rattle.std.proofs.lemmas.List.{take_all}
use Rattle.sb_script.specs.Scopes.{constants_in}
use Rattle.sb_sorts.specs.Scopes.{naming_in}
use Rattle.sb_stack.proofs.value.constants.Goals as goal
use Rattle.sb_stack.proofs.value.constants.Goals.{in-Constant+in_ok-push, in_default-named}

pub loop-place-preserved : goal.loop-place-preserved
loop-place-preserved c = λ ts.
    let names = c.args.scope.now.names in
    let place = c.loop-place.place in
    elim c.match-named.branch [
      | in-Constant+in_ok-push w ↦ ap (λ found. map constant_in found.items) w.found-is
          ∙ constant_step ts names place (record {
            name = c.in-Some.name;
            serial = w.in-Constant.serial;
            sort = w.in-Constant.sort;
          }) c.in-Some.named.now
          c.loop-place.found.items _ c.in-Some.ensures w.in-Constant.is w.in_ok-push.ensures.items
          (c.loop-place.invariant ts)
      | in_default-named w ↦ ap (λ found. map constant_in found.items) w.found-is
          ∙ mark_step ts names place c.in-Some.name.now c.in-Some.named.now (map constant_in c.loop-place.found.items)
          c.in-Some.ensures w.in_default-named.not-Constant (c.loop-place.invariant ts)
    ]

pub unreachable-requires : goal.unreachable-requires
unreachable-requires c =
    inside c.args.scope.now.names c.loop-place.place (omega (arith, c.loop-place-test.true, c.len-place-end.ensures))
    c.in_default.ensures

pub returns : goal.returns
returns c = λ ts.
    c.loop-place.invariant ts
    ∙ ap (λ names. constants_in (map (naming_in ts) names)) (take_all c.loop-place.place c.args.scope.now.names
    (omega (arith, c.loop-place-test.false, c.len-place-end.ensures)))
