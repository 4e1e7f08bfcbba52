use Rattle.std.proofs.Common.{arith}
use Rattle.std.proofs.lemmas.Grind.{common_steps}
use Rattle.sb_proof.proofs.shapes.Tuple2U64U64Shape.read.Goals as goal

pub returns : goal.returns
returns c = grind (arith, common_steps)

pub returns-in_default : goal.returns-in_default
returns-in_default c = grind (arith, common_steps)

pub returns-in_default-hexadecimal_number : goal.returns-in_default-hexadecimal_number
returns-in_default-hexadecimal_number c = grind (arith, common_steps)

pub returns-in_default-hexadecimal_number-2 : goal.returns-in_default-hexadecimal_number-2
returns-in_default-hexadecimal_number-2 c = grind (arith, common_steps)
