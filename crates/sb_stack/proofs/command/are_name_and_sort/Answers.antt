use Rattle.std.proofs.Common.{◌&&◌, is_some, sym, ap, ◌∙◌}
use Rattle.sb_reader.specs.Forms.{shape_of, shapes_in}
use Rattle.sb_script.specs.Commands.{is_sort_form}
use Rattle.sb_stack.proofs.Shapes.{name_and_sort, parameter_of_pair, some_copied}
use Rattle.sb_stack.proofs.command.are_name_and_sort.Goals as goal

pub returns-then-is_some : goal.returns-then-is_some
returns-then-is_some c =
    let declared = ap is_some (sym c.declarable.ensures) ∙ sym (some_copied c.declarable.result)
    ∙ sym c.is_some.ensures ∙ c.if-is_some.true in
    c.is_sort.ensures ∙ ap (λ b. b && is_sort_form (shape_of c.in-Some.sort)) (sym declared)
    ∙ ap name_and_sort c.in-Some.ensures ∙ sym (parameter_of_pair (shapes_in c.args.forms))

pub returns-else-is_some : goal.returns-else-is_some
returns-else-is_some c =
    let declared = ap is_some (sym c.declarable.ensures) ∙ sym (some_copied c.declarable.result)
    ∙ sym c.is_some.ensures ∙ c.if-is_some.false in
    c.if-is_some.false ∙ ap (λ b. b && is_sort_form (shape_of c.in-Some.sort)) (sym declared)
    ∙ ap name_and_sort c.in-Some.ensures ∙ sym (parameter_of_pair (shapes_in c.args.forms))
