use Rattle.std.proofs.Common.{refl}
use Rattle.sb_stack.proofs.Changes.{keeps_same}
use Rattle.sb_stack.proofs.Replying.{unanswered, ended, whatever}
use Rattle.sb_stack.proofs.stack.Stack.assert_term.Goals as goal

pub returns-then-ne-clause-err : goal.returns-then-ne-clause-err
returns-then-ne-clause-err c = whatever c.error_line.result refl

pub returns-then-ne-clause-keeps : goal.returns-then-ne-clause-keeps
returns-then-ne-clause-keeps c = keeps_same c.args.self.now

pub returns-in_err-answer : goal.returns-in_err-answer
returns-in_err-answer c =
    let k = c.args.self.now in unanswered _ c.from_residual.result k k refl c.from_residual.ensures.0

pub returns-in_err-add_assertion : goal.returns-in_err-add_assertion
returns-in_err-add_assertion c =
    let e = c.in_err-add_assertion.ensures in
    ended _ c.from_residual-in_err-add_assertion.result c.args.self.now c.add_assertion.new.self
    c.from_residual-in_err-add_assertion.ensures.0 e.err e.keeps

pub returns-clause-keeps : goal.returns-clause-keeps
returns-clause-keeps c = c.in_ok-add_assertion.ensures.keeps
