use Rattle.std.proofs.lemmas.Result.{IfOk-from_err}
use Rattle.sb_proof.proofs.tape.MemTape.append.Goals as goal

pub returns-in_err-put_line-clause-ok : goal.returns-in_err-put_line-clause-ok
returns-in_err-put_line-clause-ok c = IfOk-from_err c.from_residual-in_err-put_line.result _ c.from_residual-in_err-put_line.ensures.0

pub returns-in_err-reserve-clause-ok : goal.returns-in_err-reserve-clause-ok
returns-in_err-reserve-clause-ok c = IfOk-from_err c.from_residual.result _ c.from_residual.ensures.0
