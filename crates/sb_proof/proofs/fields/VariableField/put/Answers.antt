use Rattle.std.proofs.Common.{arith}
use Rattle.std.proofs.lemmas.Grind.{common_steps}
use Rattle.sb_proof.proofs.fields.VariableField.put.Goals as goal

pub returns-in_ok-push-in-Int : goal.returns-in_ok-push-in-Int
returns-in_ok-push-in-Int c = grind (arith, common_steps)

pub returns-in_ok-push-in-Length : goal.returns-in_ok-push-in-Length
returns-in_ok-push-in-Length c = grind (arith, common_steps)
