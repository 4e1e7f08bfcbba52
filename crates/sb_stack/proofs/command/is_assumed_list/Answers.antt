use Rattle.std.proofs.Common.{sym, ap, ◌∙◌}
use Rattle.sb_reader.specs.Forms.{shapes_in}
use Rattle.sb_stack.proofs.Shapes.{assumed_pair, assumed_of_pair}
use Rattle.sb_stack.proofs.command.is_assumed_list.Goals as goal

pub returns-in-Some : goal.returns-in-Some
returns-in-Some c =
    c.is_assumed_pair.ensures ∙ ap assumed_pair c.in-Some.ensures ∙ sym (assumed_of_pair (shapes_in c.args.forms))

pub returns-in-None : goal.returns-in-None
returns-in-None c = ap assumed_pair c.in-None.ensures ∙ sym (assumed_of_pair (shapes_in c.args.forms))
