use Rattle.std.proofs.Common.{refl}
use Rattle.std.proofs.lemmas.Result.{err_from_is_err_and}
use Rattle.sb_proof.specs.Lines.{line_in}
use Rattle.sb_stack.specs.Stacked.{question_of}
use Rattle.sb_check.proofs.Taking.{first_refused, other_refused, other_taken}
use Rattle.sb_check.proofs.judge.Judge.take_line.Goals as goal

pub returns-in_err-take_first-clause-err : goal.returns-in_err-take_first-clause-err
returns-in_err-take_first-clause-err c =
    let e = err_from_is_err_and c.from_residual.result c.from_residual.ensures.1 in
    first_refused c.from_residual.result e.0 _ (question_of c.args.self.now.stack) c.args.self.now
    (line_in c.args.line.now) e.1 e.2 c.if-not-self.true c.in_err-take_first.ensures.err

pub returns-in_err-take_kept-clause-err : goal.returns-in_err-take_kept-clause-err
returns-in_err-take_kept-clause-err c =
    let e = err_from_is_err_and c.from_residual-in_err-take_kept.result c.from_residual-in_err-take_kept.ensures.1 in
    other_refused c.from_residual-in_err-take_kept.result e.0 _ c.args.self.now.stack c.args.self.now
    c.args.line.now e.1 e.2 c.if-not-self.false c.in_default.not-Verdict c.in_err-take_kept.ensures.err

pub returns-clause-ok : goal.returns-clause-ok
returns-clause-ok c =
    other_taken c.args.self.now.stack c.args.self.now c.take_kept.new.self c.args.line.now
    c.take_kept.ensures.stack refl c.if-not-self.false c.in_default.not-Verdict c.in_ok-take_kept.ensures.ok
