use Rattle.std.proofs.Common.{arith}
use Rattle.std.proofs.lemmas.List.{take_all}
use Rattle.sb_term.proofs.Descending.{puts_none, puts_more, puts_end}
use Rattle.sb_term.proofs.worklist.put_all.Goals as goal

pub loop-id-init : goal.loop-id-init
loop-id-init c = puts_none c.args.left.now.keys

pub loop-id-preserved : goal.loop-id-preserved
loop-id-preserved c =
    puts_more c.args.left.now.keys c.loop-id.left.keys c.insert.new.self.keys c.args.ids.now c.loop-id.id-index
    c.id-item.result c.loop-id.invariant c.loop-id-test.true c.id-item.is c.in_ok-insert.ensures.keys

pub returns : goal.returns
returns c =
    puts_end c.args.left.now.keys c.loop-id.left.keys c.args.ids.now c.loop-id.id-index
    (take_all c.loop-id.id-index c.args.ids.now (omega (arith, c.loop-id-test.false))) c.loop-id.invariant
