use Rattle.std.proofs.lemmas.Result.{IfOk-from_err}
use Rattle.sb_proof.proofs.arity.any_number.Goals as goal

pub returns-in_err-items : goal.returns-in_err-items
returns-in_err-items g c = IfOk-from_err c.from_residual.result _ c.from_residual.ensures.0
