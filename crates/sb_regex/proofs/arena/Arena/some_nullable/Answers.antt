use Rattle.std.proofs.Common.{arith, refl}
use Rattle.sb_regex.proofs.Rests.{some_found, some_next, some_done}
use Rattle.sb_regex.proofs.arena.Arena.some_nullable.Goals as goal

pub loop-id-init : goal.loop-id-init
loop-id-init c = refl

pub returns-then-nullable : goal.returns-then-nullable
returns-then-nullable c =
    some_found c.args.self.now c.args.ids.now c.loop-id.id-index c.id-item.result c.nullable.result _
    c.loop-id-test.true c.id-item.is c.nullable.ensures c.if-nullable.true c.loop-id.invariant

pub loop-id-preserved : goal.loop-id-preserved
loop-id-preserved c =
    some_next c.args.self.now c.args.ids.now c.loop-id.id-index c.id-item.result c.nullable.result _ c.loop-id-test.true
    c.id-item.is c.nullable.ensures c.if-nullable.false c.loop-id.invariant

pub returns : goal.returns
returns c = some_done c.args.self.now c.args.ids.now c.loop-id.id-index _ (omega (arith, c.loop-id-test.false))
    c.loop-id.invariant
