use Rattle.std.proofs.lemmas.Result.{IfOk-from_err}
use Rattle.sb_proof.proofs.read.read_line.Goals as goal

pub returns-in_err-answer-clause-printed : goal.returns-in_err-answer-clause-printed
returns-in_err-answer-clause-printed c = IfOk-from_err c.from_residual.result _ c.from_residual.ensures.0

pub returns-in_err-answer-clause-read : goal.returns-in_err-answer-clause-read
returns-in_err-answer-clause-read c = IfOk-from_err c.from_residual.result _ c.from_residual.ensures.0

pub returns-in_err-answer-clause-text : goal.returns-in_err-answer-clause-text
returns-in_err-answer-clause-text c = IfOk-from_err c.from_residual.result _ c.from_residual.ensures.0
