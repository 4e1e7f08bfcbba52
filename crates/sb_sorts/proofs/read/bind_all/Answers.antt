use Rattle.std.proofs.Common.{refl, arith}
use Rattle.sb_sorts.proofs.Binds.{bound_start, bound_down, bound_end}
use Rattle.sb_sorts.proofs.read.bind_all.Goals as goal

pub loop-place-init : goal.loop-place-init
loop-place-init c = (omega arith, bound_start c.args.bound.now _ c.args.locals.now refl)

pub loop-place-preserved : goal.loop-place-preserved
loop-place-preserved c = (
  omega (arith, c.loop-place.invariant.0),
  bound_down c.args.bound.now c.loop-place.place c.in-Some.one.now c.args.locals.now c.loop-place.locals
      c.push.new.self c.loop-place-test.true c.loop-place.invariant.0 c.in-Some.ensures.lookup.1
      c.in_ok-push.ensures.ok c.loop-place.invariant.1,
)

pub returns : goal.returns
returns c =
    bound_end c.args.bound.now c.loop-place.place c.args.locals.now c.loop-place.locals c.loop-place-test.false
    c.loop-place.invariant.1
