use Rattle.std.proofs.Common.{◌<◌, length, arith}
use Rattle.std.proofs.lemmas.Result.{IfOk-from_err}
use Rattle.sb_regex.proofs.CallerLemmas.{numbers_kept, number_kept, extends_same, extends_more}
use Rattle.sb_deriv.specs.Choices.{list_of}
use Rattle.sb_deriv.proofs.Derivatives.{constants_kept}
use Rattle.sb_deriv.proofs.Making.{making_init, making_at, made_each, numbers_at, whole_at, operand_later, no_made}
use Rattle.sb_deriv.proofs.pieces.make_each.Goals as goal

pub loop-place-init : goal.loop-place-init
loop-place-init c = (
  making_init c.args.choices.now c.args.arena.now c.args.operation.now _ c.requires.whole c.in_ok-pieces.ensures.items,
  no_made c.args.arena.now c.args.operation.now c.args.choices.now c.new-known.result.items c.new-known.ensures.items,
  c.requires.constants,
)

pub target_of-requires-clause-members : goal.target_of-requires-clause-members
target_of-requires-clause-members c =
    let l : c.loop-place.place < length c.args.choices.now =
    omega (arith, c.len-place-end.ensures, c.loop-place-test.true)
    in
    numbers_kept c.args.arena.now c.loop-place.arena (list_of c.args.choices.now c.loop-place.place)
    c.loop-place.invariant.0.extends (numbers_at c.args.choices.now c.args.arena.now c.loop-place.place c.requires.whole
    l c.requires.members)

pub target_of-requires-clause-hint : goal.target_of-requires-clause-hint
target_of-requires-clause-hint c =
    number_kept c.args.arena.now c.loop-place.arena c.args.hint c.loop-place.invariant.0.extends c.requires.hint

pub target_of-requires-clause-operand : goal.target_of-requires-clause-operand
target_of-requires-clause-operand c =
    operand_later c.args.arena.now c.loop-place.arena c.args.operation.now c.loop-place.invariant.0.extends
    c.requires.operand

pub push-requires-clause-whole : goal.push-requires-clause-whole
push-requires-clause-whole c =
    let l : c.loop-place.place < length c.args.choices.now =
    omega (arith, c.len-place-end.ensures, c.loop-place-test.true)
    in
    rw (c.first.ensures) (whole_at c.args.choices.now c.args.arena.now c.loop-place.arena c.args.operation.now
    c.loop-place.place c.loop-place.pieces.items c.loop-place.invariant.0 l)

pub loop-place-preserved : goal.loop-place-preserved
loop-place-preserved c =
    let l : c.loop-place.place < length c.args.choices.now =
    omega (arith, c.len-place-end.ensures, c.loop-place-test.true)
    in (
      making_at c.args.choices.now c.args.arena.now c.loop-place.arena c.target_of.new.arena c.args.operation.now
          c.loop-place.place c.loop-place.pieces.items c.push.new.pieces.items c.in_ok-target.target
          c.loop-place.invariant.0 c.requires.whole l (numbers_at c.args.choices.now c.args.arena.now c.loop-place.place
          c.requires.whole l c.requires.members) c.requires.operand c.in_ok-target.ensures.ok
          c.in_ok-target.ensures.extends (rw (c.first.ensures) at c.in_ok-push.ensures.whole)
          c.in_ok-push.ensures.merged (rw (c.first.ensures) at c.in_ok-push.ensures.value)
          c.in_ok-push.ensures.targets,
      c.in_ok-target.ensures.known,
      constants_kept c.loop-place.arena c.target_of.new.arena c.args.constants.now c.in_ok-target.ensures.extends
          c.loop-place.invariant.2,
    )

pub returns : goal.returns
returns c =
    record {
      map = rw (c.shrink_to_fit.ensures.items) (made_each c.args.choices.now c.args.arena.now
          c.loop-place.arena c.args.operation.now c.loop-place.place c.loop-place.pieces.items c.loop-place.invariant.0
          c.requires.whole (omega (arith, c.len-place-end.ensures, c.loop-place-test.false)));
      extends = c.loop-place.invariant.0.extends;
    }

pub returns-in_err-pieces : goal.returns-in_err-pieces
returns-in_err-pieces c =
    let x = c.from_residual in
    record {
      map = IfOk-from_err x.result _ x.ensures.0;
      extends = extends_same c.args.arena.now;
    }

pub returns-in_err-target : goal.returns-in_err-target
returns-in_err-target c =
    let x = c.from_residual-in_err-target in
    record {
      map = IfOk-from_err x.result _ x.ensures.0;
      extends = extends_more c.args.arena.now c.loop-place.arena c.target_of.new.arena c.loop-place.invariant.0.extends
          c.in_err-target.ensures.extends;
    }

pub returns-in_err-push : goal.returns-in_err-push
returns-in_err-push c =
    let x = c.from_residual-in_err-push in
    record {
      map = IfOk-from_err x.result _ x.ensures.0;
      extends = extends_more c.args.arena.now c.loop-place.arena c.target_of.new.arena c.loop-place.invariant.0.extends
          c.in_ok-target.ensures.extends;
    }

pub target_of-requires-clause-constants : goal.target_of-requires-clause-constants
target_of-requires-clause-constants c = c.loop-place.invariant.2

pub target_of-requires-clause-known : goal.target_of-requires-clause-known
target_of-requires-clause-known c = c.loop-place.invariant.1

pub push-requires-clause-merged : goal.push-requires-clause-merged
push-requires-clause-merged c = c.loop-place.invariant.0.merged
