use Rattle.std.proofs.Common.{ap, ap₂, sym}
use Rattle.sb_stack.specs.Taking.{asserts}
use Rattle.sb_stack.proofs.Replying.{replies_after, refuses_reading}
use Rattle.sb_stack.proofs.stack.Stack.assert.Goals as goal

pub returns-in-Ok : goal.returns-in-Ok
returns-in-Ok c =
    replies_after _ _ c.assert_term.result c.args.self.now c.read.new.self c.assert_term.new.self c.read.ensures.state
    c.read.ensures.keeps (ap₂ asserts c.in-Ok.ensures.reads.0 (sym c.read.ensures.state)) c.assert_term.ensures

pub returns-in-Err : goal.returns-in-Err
returns-in-Err c =
    replies_after _ _ c.refuse_term.result c.args.self.now c.read.new.self c.refuse_term.new.self c.read.ensures.state
    c.read.ensures.keeps (ap (asserts _) (sym c.read.ensures.state))
    (refuses_reading _ c.refuse_term.result c.read.new.self c.refuse_term.new.self _ c.in-Err.ensures.reads
    c.refuse_term.ensures)
