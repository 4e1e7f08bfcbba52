use Rattle.std.proofs.Common.{refl, sym, ◌∙◌, arith}
use Rattle.sb_regex.proofs.Comparing.{equal_numbers, alike_at, decided, parts_of}
use Rattle.sb_regex.proofs.arena.Arena.compare.Goals as goal

pub loop-left-init : goal.loop-left-init
loop-left-init c = (c.requires.left, c.requires.right, refl)

pub difference-requires-clause-left : goal.difference-requires-clause-left
difference-requires-clause-left c = c.loop-left.invariant.0

pub difference-requires-clause-right : goal.difference-requires-clause-right
difference-requires-clause-right c = c.loop-left.invariant.1

pub returns-in-Decided-clause-value : goal.returns-in-Decided-clause-value
returns-in-Decided-clause-value c =
    decided c.args.self.now c.loop-left.left c.loop-left.right c.difference.result _ _ c.difference.ensures
    c.in-Decided.is c.loop-left.invariant.2

pub returns-in-Decided-clause-equal : goal.returns-in-Decided-clause-equal
returns-in-Decided-clause-equal c =
    equal_numbers c.order_tells_apart.ensures c.args.self.now c.normal_regexes_each_once.ensures.distinct c.args.a
    c.args.b c.requires.left c.requires.right _
    (decided c.args.self.now c.loop-left.left c.loop-left.right c.difference.result _ _ c.difference.ensures
    c.in-Decided.is c.loop-left.invariant.2)

pub loop-left-smaller : goal.loop-left-smaller
loop-left-smaller c =
    (parts_of c.args.self.now c.loop-left.left c.loop-left.right c.difference.result _ _ c.difference.ensures
    c.in-Parts.is).0

pub loop-left-preserved : goal.loop-left-preserved
loop-left-preserved c =
    let p = parts_of c.args.self.now c.loop-left.left c.loop-left.right c.difference.result _ _ c.difference.ensures
    c.in-Parts.is in (
      omega (arith, p.0, c.loop-left.invariant.0),
      omega (arith, p.1, c.loop-left.invariant.1),
      sym p.2
          ∙ c.loop-left.invariant.2,
    )

pub returns-clause-value : goal.returns-clause-value
returns-clause-value c =
    alike_at c.order_tells_apart.ensures c.args.self.now c.loop-left.left c.loop-left.right _ _ c.ne.ensures
    c.loop-left-test.false c.loop-left.invariant.2

pub returns-clause-equal : goal.returns-clause-equal
returns-clause-equal c =
    equal_numbers c.order_tells_apart.ensures c.args.self.now c.normal_regexes_each_once.ensures.distinct c.args.a
    c.args.b c.requires.left c.requires.right _
    (alike_at c.order_tells_apart.ensures c.args.self.now c.loop-left.left c.loop-left.right _ _ c.ne.ensures
    c.loop-left-test.false c.loop-left.invariant.2)
