use Rattle.std.proofs.Common.{◌≡◌, [], length}
use Rattle.sb_script.specs.Commands.{parameters_of}
use Rattle.sb_script.specs.Reading.{first_again}
use Rattle.sb_script.specs.Replies.{names_of_parameters}
use Rattle.sb_stack.specs.Commands.{forms_in}
use Rattle.sb_stack.specs.Defining.{names_in}
use Rattle.sb_stack.proofs.parameter.first_again.Given as goal

abbrev pub invariant-loop-form : goal.invariant-loop-form
invariant-loop-form l =
    first_again [] (names_of_parameters (parameters_of (forms_in l.forms)))
    ≡ first_again (names_in l.seen.keys) (names_of_parameters (parameters_of (forms_in l.left)))

abbrev pub decreases-loop-form : goal.decreases-loop-form
decreases-loop-form l = length (forms_in l.left)
