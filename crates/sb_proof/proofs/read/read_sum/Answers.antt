use Rattle.std.proofs.Common.{arith}
use Rattle.std.proofs.lemmas.Grind.{common_steps}
use Rattle.std.proofs.lemmas.Result.{IfOk-from_err}
use Rattle.sb_proof.proofs.read.read_sum.Goals as goal

pub returns-in-None : goal.returns-in-None
returns-in-None c = grind (arith, common_steps)

pub returns-in-Some-2 : goal.returns-in-Some-2
returns-in-Some-2 c = grind (arith, common_steps)

pub returns-in_default : goal.returns-in_default
returns-in_default c = grind (arith, common_steps)

pub returns-in_default-integer : goal.returns-in_default-integer
returns-in_default-integer c = grind (arith, common_steps)

pub returns-then-not-has_pairs : goal.returns-then-not-has_pairs
returns-then-not-has_pairs c = grind (arith, common_steps)

pub returns-in_err-summands : goal.returns-in_err-summands
returns-in_err-summands c = IfOk-from_err c.from_residual.result _ c.from_residual.ensures.0
