use Rattle.std.proofs.Common.{true, false, arith}
use Rattle.sb_graph.proofs.WalkSteps.{item_nullable, tested_more}
use Rattle.sb_graph.proofs.members.first_nullable.Goals as goal

pub loop-place-init : goal.loop-place-init
loop-place-init c = (omega arith, λ k f l. absurd (omega (arith, f, l)))

pub returns-then-nullable : goal.returns-then-nullable
returns-then-nullable c = record {
  after = c.loop-place.invariant.0;
  within = c.loop-place-test.true;
  before = c.loop-place.invariant.1;
  empty_word = item_nullable c.args.arena.now c.args.regexes.now c.loop-place.place c.index-regexes-place.result
      c.nullable.result true c.loop-place-test.true c.index-regexes-place.is c.nullable.ensures c.if-nullable.true;
}

pub loop-place-preserved : goal.loop-place-preserved
loop-place-preserved c =
    let i = c.loop-place.invariant in (
      omega (arith, i.0),
      tested_more c.args.arena.now c.args.regexes.now c.args.from c.loop-place.place i.1
          (item_nullable c.args.arena.now c.args.regexes.now c.loop-place.place c.index-regexes-place.result
          c.nullable.result false c.loop-place-test.true c.index-regexes-place.is c.nullable.ensures
          c.if-nullable.false),
    )

pub returns : goal.returns
returns c = λ k f l. c.loop-place.invariant.1 k f (omega (arith, l, c.loop-place-test.false))
