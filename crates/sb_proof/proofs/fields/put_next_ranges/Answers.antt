use Rattle.std.proofs.Common.{arith}
use Rattle.std.proofs.lemmas.Grind.{common_steps}
use Rattle.std.proofs.lemmas.Result.{IfOk-from_err}
use Rattle.sb_proof.proofs.fields.put_next_ranges.Goals as goal

pub loop-range-preserved : goal.loop-range-preserved
loop-range-preserved c = grind (arith, common_steps)

pub returns : goal.returns
returns c = grind (arith, common_steps)

pub returns-in_err-put_next_range : goal.returns-in_err-put_next_range
returns-in_err-put_next_range c = IfOk-from_err c.from_residual.result _ c.from_residual.ensures.0
