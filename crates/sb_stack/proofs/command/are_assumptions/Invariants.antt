use Rattle.std.proofs.Common.{◌≡◌, length}
use Rattle.std.specs.List.{list_all}
use Rattle.sb_script.specs.Commands.{is_assumption_form}
use Rattle.sb_stack.specs.Commands.{forms_in}
use Rattle.sb_stack.proofs.command.are_assumptions.Given as goal

abbrev pub invariant-loop-form : goal.invariant-loop-form
invariant-loop-form l = list_all is_assumption_form (forms_in l.forms) ≡ list_all is_assumption_form (forms_in l.left)

abbrev pub decreases-loop-form : goal.decreases-loop-form
decreases-loop-form l = length (forms_in l.left)
