use Rattle.std.proofs.Common.{arith, refl}
use Rattle.sb_regex.proofs.Rests.{all_found, all_next, all_done}
use Rattle.sb_regex.proofs.arena.Arena.all_nullable.Goals as goal

pub loop-id-init : goal.loop-id-init
loop-id-init c = refl

pub returns-then-not-nullable : goal.returns-then-not-nullable
returns-then-not-nullable c =
    all_found c.args.self.now c.args.ids.now c.loop-id.id-index c.id-item.result c.nullable.result _ c.loop-id-test.true
    c.id-item.is c.nullable.ensures c.if-not-nullable.true c.loop-id.invariant

pub loop-id-preserved : goal.loop-id-preserved
loop-id-preserved c =
    all_next c.args.self.now c.args.ids.now c.loop-id.id-index c.id-item.result c.nullable.result _ c.loop-id-test.true
    c.id-item.is c.nullable.ensures c.if-not-nullable.false c.loop-id.invariant

pub returns : goal.returns
returns c = all_done c.args.self.now c.args.ids.now c.loop-id.id-index _ (omega (arith, c.loop-id-test.false))
    c.loop-id.invariant
