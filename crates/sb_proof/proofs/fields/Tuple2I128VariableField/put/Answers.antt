use Rattle.std.proofs.Common.{arith}
use Rattle.std.proofs.lemmas.Grind.{common_steps}
use Rattle.sb_proof.proofs.fields.Tuple2I128VariableField.put.Goals as goal

pub returns : goal.returns
returns c = grind (arith, common_steps)
