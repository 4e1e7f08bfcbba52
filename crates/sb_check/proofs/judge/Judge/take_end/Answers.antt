use Rattle.std.proofs.lemmas.Result.{err_from_is_err_and}
use Rattle.sb_proof.specs.Lines.{line_in}
use Rattle.sb_check.proofs.Taking.{first_refused_last}
use Rattle.sb_check.proofs.judge.Judge.take_end.Goals as goal

pub returns-in_err-take_first-clause-err : goal.returns-in_err-take_first-clause-err
returns-in_err-take_first-clause-err c =
    let e = err_from_is_err_and c.from_residual.result c.from_residual.ensures.1 in
    first_refused_last c.from_residual.result e.0 _ c.args.self.now (line_in c.args.line.now) e.1 e.2 c.if-not-self.true
    c.in_err-take_first.ensures.err
