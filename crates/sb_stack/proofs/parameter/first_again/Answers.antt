use Rattle.std.proofs.Common.{Some, ap, ◌∙◌}
use Rattle.sb_reader.specs.Forms.{shape_of, shapes_in}
use Rattle.sb_script.specs.Commands.{list_of, parameters_of}
use Rattle.sb_script.specs.Replies.{names_of_parameters}
use Rattle.sb_stack.specs.Commands.{forms_in}
use Rattle.sb_stack.specs.Defining.{names_in}
use Rattle.sb_stack.proofs.Definitions.{next_is, fresh_name, again_later}
use Rattle.sb_stack.proofs.parameter.first_again.Goals as goal

pub loop-form-preserved : goal.loop-form-preserved
loop-form-preserved c =
    let form = shape_of c.in-Some.form in
    let behind = list_of (shapes_in c.in-Some.behind) in
    let name = c.in-Some-parameter_in.name.now in
    let sort = shape_of c.in-Some-parameter_in.field-0-1 in
    let old = names_in c.loop-form.seen.keys in
    let new = names_in c.put_name.new.seen.keys in
    let fresh = fresh_name old name new c.in_ok-put_name.field-0 c.if-not-branch.false c.in_ok-put_name.ensures in
    again_later (names_of_parameters (parameters_of (forms_in c.args.forms))) _ (names_of_parameters (parameters_of behind))
    old new name
    (ap (λ fs. names_of_parameters (parameters_of (list_of fs))) c.in-Some.ensures
    ∙ ap names_of_parameters (next_is form behind (Some (name, sort)) c.in-Some-parameter_in.ensures))
    fresh.0 fresh.1 c.loop-form.invariant
