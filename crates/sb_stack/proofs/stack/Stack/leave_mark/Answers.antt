use Rattle.std.proofs.Common.{refl}
use Rattle.sb_script.specs.Faults.{unsupported}
use Rattle.sb_script.specs.Steps.{refused_term}
use Rattle.sb_stack.specs.Stacked.{state_of}
use Rattle.sb_stack.proofs.Replying.{unanswered, ended, said_and_done}
use Rattle.sb_stack.proofs.stack.Stack.leave_mark.Goals as goal

pub returns-in_err-answer : goal.returns-in_err-answer
returns-in_err-answer c =
    let k = c.args.self.now in unanswered (refused_term unsupported (state_of k)) c.from_residual.result k k refl c.from_residual.ensures.0

pub returns-in_err-add_assertion : goal.returns-in_err-add_assertion
returns-in_err-add_assertion c =
    let e = c.in_err-add_assertion.ensures in
    ended (refused_term unsupported (state_of c.args.self.now)) c.from_residual-in_err-add_assertion.result
    c.args.self.now c.add_assertion.new.self
    c.from_residual-in_err-add_assertion.ensures.0 e.err e.keeps

pub returns : goal.returns
returns c =
    let e = c.in_ok-add_assertion.ensures in
    said_and_done _ _ c.in_ok-answer.answer c.args.self.now c.add_assertion.new.self _ refl c.in_ok-answer.ensures e.ok
    e.keeps
