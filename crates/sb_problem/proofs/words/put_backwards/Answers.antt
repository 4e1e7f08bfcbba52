use Rattle.std.proofs.Common.{◌≡◌, ◌-◌, ◌++◌, suc, drop, ap, ◌∙◌, arith}
use Rattle.sb_problem.specs.Taking.{backwards}
use Rattle.sb_problem.proofs.Takings.{backwards_none, backwards_more}
use Rattle.sb_problem.proofs.words.put_backwards.Goals as goal

pub loop-place-init : goal.loop-place-init
loop-place-init c = (omega arith, backwards_none c.args.left.now.items c.args.ids.now _ (omega arith))

pub loop-place-preserved : goal.loop-place-preserved
loop-place-preserved c =
    let k = c.loop-place.place - 1 in
    let same : c.loop-place.place ≡ suc k = omega (arith, c.loop-place-test.true) in (
      omega (arith, c.loop-place.invariant.0),
      backwards_more c.args.left.now.items c.loop-place.left.items c.push.new.self.items c.args.ids.now k
          c.index-ids-place.result
          (c.loop-place.invariant.1
          ∙ ap (λ n. c.args.left.now.items ++ backwards (drop n c.args.ids.now)) same)
          (omega (arith, c.loop-place.invariant.0, c.loop-place-test.true)) c.index-ids-place.is
          c.in_ok-push.ensures.items,
    )

pub returns : goal.returns
returns c =
    let none : c.loop-place.place ≡ 0 = omega (arith, c.loop-place-test.false) in
    c.loop-place.invariant.1
    ∙ ap (λ n. c.args.left.now.items ++ backwards (drop n c.args.ids.now)) none
