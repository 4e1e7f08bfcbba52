use Rattle.std.proofs.Common.{[], ◌∷◌, option_and_then, sym, ap, ◌∙◌}
use Rattle.sb_reader.specs.Forms.{shapes_in}
use Rattle.sb_script.specs.Commands as meaning
use Rattle.sb_script.specs.Replies.{check_sat_assuming}
use Rattle.sb_stack.proofs.Shapes.{assuming_of_only}
use Rattle.sb_stack.proofs.command.assuming_shape.Goals as goal

pub returns-in-Some : goal.returns-in-Some
returns-in-Some c =
    c.assuming.ensures
    ∙ ap (option_and_then (λ f. meaning.assuming_shape check_sat_assuming (f ∷ []))) c.in-Some.ensures
    ∙ sym (assuming_of_only check_sat_assuming (shapes_in c.args.arguments))

pub returns-in-None : goal.returns-in-None
returns-in-None c =
    ap (option_and_then (λ f. meaning.assuming_shape check_sat_assuming (f ∷ []))) c.in-None.ensures
    ∙ sym (assuming_of_only check_sat_assuming (shapes_in c.args.arguments))
