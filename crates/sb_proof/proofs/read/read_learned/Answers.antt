use Rattle.std.proofs.Common.{arith}
use Rattle.std.proofs.lemmas.Grind.{common_steps}
use Rattle.std.proofs.lemmas.Result.{IfOk-from_err}
use Rattle.sb_proof.proofs.read.read_learned.Goals as goal

pub returns-in-Some-3 : goal.returns-in-Some-3
returns-in-Some-3 c = grind (arith, common_steps)

pub returns-in_err-hints : goal.returns-in_err-hints
returns-in_err-hints c = IfOk-from_err c.from_residual-in_err-hints.result _ c.from_residual-in_err-hints.ensures.0

pub returns-in_err-literals : goal.returns-in_err-literals
returns-in_err-literals c = IfOk-from_err c.from_residual.result _ c.from_residual.ensures.0
