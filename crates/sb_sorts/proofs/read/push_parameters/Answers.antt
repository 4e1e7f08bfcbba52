use Rattle.std.proofs.Common.{refl, arith}
use Rattle.sb_meaning.specs.Terms.{parameter}
use Rattle.sb_term.specs.Symbols.{sort_in}
use Rattle.sb_sorts.proofs.Reading.{grows_same, grows_more, grows_put}
use Rattle.sb_sorts.proofs.Binds.{params_start, params_down, params_end}
use Rattle.sb_sorts.proofs.read.push_parameters.Goals as goal

pub loop-place-init : goal.loop-place-init
loop-place-init c = (
  omega arith,
  params_start c.args.table.now c.args.parameters.now _ c.args.locals.now c.requires refl,
  λ n. grows_same n c.args.table.now,
)

pub loop-place-preserved : goal.loop-place-preserved
loop-place-preserved c = (
  omega (arith, c.loop-place.invariant.0),
  params_down c.loop-place.table c.add.new.self c.args.parameters.now c.loop-place.place c.in-Some.parameter.now
      c.in_ok-number.number c.in_ok-id.id c.loop-place.locals c.push.new.self c.loop-place-test.true
      c.loop-place.invariant.0 c.in-Some.ensures.lookup.1 c.add.ensures.extends c.in_ok-number.ensures
      c.in_ok-id.ensures.ok c.in_ok-push.ensures.ok c.loop-place.invariant.1,
  λ n. grows_more n c.args.table.now c.loop-place.table c.add.new.self (c.loop-place.invariant.2 n)
      (grows_put c.loop-place.table c.add.new.self
      (parameter c.in_ok-number.number (sort_in c.in-Some.parameter.now.sort)) c.add.ensures.extends c.add.ensures.only
      (λ n. refl) n),
)

pub returns-in_err-id-clause-grows : goal.returns-in_err-id-clause-grows
returns-in_err-id-clause-grows c = λ n.
    grows_more n c.args.table.now c.loop-place.table c.add.new.self (c.loop-place.invariant.2 n)
    (grows_put c.loop-place.table c.add.new.self
    (parameter c.in_ok-number.number (sort_in c.in-Some.parameter.now.sort)) c.add.ensures.extends c.add.ensures.only
    (λ n. refl) n)

pub returns-in_err-push-clause-grows : goal.returns-in_err-push-clause-grows
returns-in_err-push-clause-grows c = λ n.
    grows_more n c.args.table.now c.loop-place.table c.add.new.self (c.loop-place.invariant.2 n)
    (grows_put c.loop-place.table c.add.new.self
    (parameter c.in_ok-number.number (sort_in c.in-Some.parameter.now.sort)) c.add.ensures.extends c.add.ensures.only
    (λ n. refl) n)

pub returns-clause-ok : goal.returns-clause-ok
returns-clause-ok c =
    params_end c.loop-place.table c.args.parameters.now c.loop-place.place c.loop-place.locals c.loop-place-test.false
    c.loop-place.invariant.1
