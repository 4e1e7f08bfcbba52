use Rattle.std.proofs.Common.{Some, refl, ap, ◌∙◌}
use Rattle.sb_reader.specs.Forms.{shape_of, shapes_in}
use Rattle.sb_script.specs.Commands.{list_of, parameters_of}
use Rattle.sb_stack.specs.Commands.{forms_in}
use Rattle.sb_stack.proofs.Definitions.{next_is, one_found}
use Rattle.sb_stack.proofs.parameter.parameters_in.Goals as goal

pub loop-form-preserved : goal.loop-form-preserved
loop-form-preserved c =
    let form = shape_of c.in-Some.form in
    let behind = list_of (shapes_in c.in-Some.behind) in
    let name = c.in-Some-parameter_in.name in
    let sort = shape_of c.in-Some-parameter_in.sort in
    one_found (parameters_of (forms_in c.args.forms)) _ (parameters_of behind) c.loop-form.found.items _ (name.now, sort)
    (record { name = name; sort = c.in-Some-sort_in_definition.sort })
    (ap (λ fs. parameters_of (list_of fs)) c.in-Some.ensures
    ∙ next_is form behind (Some (name.now, sort)) c.in-Some-parameter_in.ensures)
    c.in_ok-push.ensures.items refl c.in-Some-sort_in_definition.ensures c.loop-form.invariant
