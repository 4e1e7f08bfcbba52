use Rattle.std.proofs.Common.{[], ◌∷◌, sym, ap, ◌∙◌}
use Rattle.sb_reader.specs.Forms.{shape_of, shapes_in, more}
use Rattle.sb_script.specs.Commands as meaning
use Rattle.sb_script.specs.Replies.{definition_of}
use Rattle.sb_stack.proofs.Shapes.{of_pair, definition_of_pair}
use Rattle.sb_stack.proofs.command.definition_shape.Goals as goal

pub returns-in-Some-pair : goal.returns-in-Some-pair
returns-in-Some-pair c =
    let name = shape_of c.in-Some.name in
    let parameters = shape_of c.in-Some-split_first.parameters in
    c.definition_of.ensures
    ∙ ap (of_pair (λ f g. meaning.definition_shape definition_of (name ∷ parameters ∷ f ∷ g ∷ [])))
    c.in-Some-pair.ensures
    ∙ sym (ap (λ fs. meaning.definition_shape definition_of (meaning.list_of fs))
    (c.in-Some.ensures ∙ ap (more name) c.in-Some-split_first.ensures)
    ∙ definition_of_pair definition_of name parameters (shapes_in c.in-Some-split_first.rest))

pub returns-in-None : goal.returns-in-None
returns-in-None c =
    let name = shape_of c.in-Some.name in
    let parameters = shape_of c.in-Some-split_first.parameters in
    ap (of_pair (λ f g. meaning.definition_shape definition_of (name ∷ parameters ∷ f ∷ g ∷ []))) c.in-None.ensures
    ∙ sym (ap (λ fs. meaning.definition_shape definition_of (meaning.list_of fs))
    (c.in-Some.ensures ∙ ap (more name) c.in-Some-split_first.ensures)
    ∙ definition_of_pair definition_of name parameters (shapes_in c.in-Some-split_first.rest))
