use Rattle.sb_proof.specs.Lines.{said_in}
use Rattle.sb_stack.specs.Stacked.{question_of}
use Rattle.sb_check.specs.Standing.{waiting_in}
use Rattle.sb_check.proofs.Taking.{verdict_taken, verdict_refused}
use Rattle.sb_check.proofs.judge.Judge.take_verdict.Goals as goal

pub returns-in-Some-clause-err : goal.returns-in-Some-clause-err
returns-in-Some-clause-err c p a =
    let stack = c.args.self.now.stack in
    verdict_refused (waiting_in stack) c.args.self.now c.wrong.new.self (question_of stack) (said_in c.args.said.now) p
    c.in_ok-reason.field-0 c.in-Some.reason a c.wrong.ensures.same c.in_ok-reason.ensures.ok c.in-Some.is

pub returns-in-None-clause-ok : goal.returns-in-None-clause-ok
returns-in-None-clause-ok c p a =
    let stack = c.args.self.now.stack in
    verdict_taken (waiting_in stack) c.args.self.now c.wrong.new.self (question_of stack) (said_in c.args.said.now) p
    c.in_ok-reason.field-0 a c.wrong.ensures.same c.wrong.ensures.kept c.in_ok-reason.ensures.ok c.in-None.is
