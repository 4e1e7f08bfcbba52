use Rattle.std.proofs.Common.{List, Option, Some, None, ap, ◌∙◌}
use Rattle.sb_reader.specs.Forms.{Form}
use Rattle.sb_script.specs.Steps.{is_unsupported}
use Rattle.sb_script.specs.Replies.{Effect, Shape}
use Rattle.sb_stack.specs.Commands.{forms_in}
use Rattle.sb_stack.proofs.command.shaped.Goals as goal

-- what a shape makes of what follows the name
abbrev by_shape : List Form → Option Shape → Option Effect
by_shape arguments (Some shape) = shape arguments
by_shape arguments None = Some is_unsupported

pub returns-in-Some : goal.returns-in-Some
returns-in-Some c = c.shaped_as.ensures ∙ ap (by_shape (forms_in c.args.arguments)) c.in-Some.ensures

pub returns-in-None : goal.returns-in-None
returns-in-None c = ap (by_shape (forms_in c.args.arguments)) c.in-None.ensures
