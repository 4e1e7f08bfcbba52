use Rattle.std.proofs.Common.{[], ◌∷◌, sym, ap, ◌∙◌}
use Rattle.sb_reader.specs.Forms.{shapes_in}
use Rattle.sb_script.specs.Commands as meaning
use Rattle.sb_script.specs.Replies.{declare_constant}
use Rattle.sb_stack.proofs.Shapes.{of_pair, constant_of_pair}
use Rattle.sb_stack.proofs.command.constant_shape.Goals as goal

pub returns-in-Some : goal.returns-in-Some
returns-in-Some c =
    c.constant_of.ensures ∙ ap (of_pair (λ f g. meaning.constant_shape declare_constant (f ∷ g ∷ []))) c.in-Some.ensures
    ∙ sym (constant_of_pair declare_constant (shapes_in c.args.arguments))
