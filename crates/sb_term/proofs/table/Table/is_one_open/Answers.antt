use Rattle.std.proofs.Common.{arith, refl}
use Rattle.sb_term.proofs.Marks.{some_found, some_next, some_done}
use Rattle.sb_term.proofs.table.Table.is_one_open.Goals as goal

pub loop-id-init : goal.loop-id-init
loop-id-init c = refl

pub returns-then-is_open : goal.returns-then-is_open
returns-then-is_open c =
    some_found c.args.self.now c.args.ids.now c.loop-id.id-index c.id-item.result c.is_open.result _
    c.loop-id-test.true c.id-item.is c.is_open.ensures c.if-is_open.true c.loop-id.invariant

pub loop-id-preserved : goal.loop-id-preserved
loop-id-preserved c =
    some_next c.args.self.now c.args.ids.now c.loop-id.id-index c.id-item.result c.is_open.result _ c.loop-id-test.true
    c.id-item.is c.is_open.ensures c.if-is_open.false c.loop-id.invariant

pub returns : goal.returns
returns c = some_done c.args.self.now c.args.ids.now c.loop-id.id-index _ (omega (arith, c.loop-id-test.false))
    c.loop-id.invariant
