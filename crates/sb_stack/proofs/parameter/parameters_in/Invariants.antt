use Rattle.std.proofs.Common.{length}
use Rattle.sb_script.specs.Commands.{parameters_of}
use Rattle.sb_stack.specs.Commands.{forms_in}
use Rattle.sb_stack.proofs.Definitions.{AreFound}
use Rattle.sb_stack.proofs.parameter.parameters_in.Given as goal

abbrev pub invariant-loop-form : goal.invariant-loop-form
invariant-loop-form l = AreFound (parameters_of (forms_in l.forms)) (parameters_of (forms_in l.left)) l.found.items

abbrev pub decreases-loop-form : goal.decreases-loop-form
decreases-loop-form l = length (forms_in l.left)
