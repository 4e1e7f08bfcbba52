use Rattle.std.proofs.Common.{[], ◌∷◌, sym, ap, ◌∙◌}
use Rattle.sb_reader.specs.Forms.{shape_of, shapes_in}
use Rattle.sb_script.specs.Commands as meaning
use Rattle.sb_script.specs.Replies.{function_of}
use Rattle.sb_stack.proofs.Shapes.{of_pair, function_of_pair}
use Rattle.sb_stack.proofs.command.function_shape.Goals as goal

pub returns-in-Some-pair : goal.returns-in-Some-pair
returns-in-Some-pair c =
    let name = shape_of c.in-Some.name in
    c.function_of.ensures
    ∙ ap (of_pair (λ f g. meaning.function_shape function_of (name ∷ f ∷ g ∷ []))) c.in-Some-pair.ensures
    ∙ sym (ap (λ fs. meaning.function_shape function_of (meaning.list_of fs)) c.in-Some.ensures
    ∙ function_of_pair function_of name (shapes_in c.in-Some.rest))

pub returns-in-None : goal.returns-in-None
returns-in-None c =
    let name = shape_of c.in-Some.name in
    ap (of_pair (λ f g. meaning.function_shape function_of (name ∷ f ∷ g ∷ []))) c.in-None.ensures
    ∙ sym (ap (λ fs. meaning.function_shape function_of (meaning.list_of fs)) c.in-Some.ensures
    ∙ function_of_pair function_of name (shapes_in c.in-Some.rest))
