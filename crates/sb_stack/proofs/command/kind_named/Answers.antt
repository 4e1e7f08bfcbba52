use Rattle.std.proofs.Common.{option_map, ap, ◌∙◌}
use Rattle.sb_sorts.proofs.CallerLemmas.{found_as}
use Rattle.sb_stack.specs.Commands.{shape_in}
use Rattle.sb_stack.proofs.command.kind_named.Goals as goal

pub returns : goal.returns
returns c = ap (option_map shape_in) c.look_up.ensures ∙ found_as shape_in _ c.args.name.now
