use Rattle.std.proofs.Common.{is_some, sym, ap, ◌∙◌}
use Rattle.sb_reader.specs.Forms.{shape_of, shapes_in}
use Rattle.sb_script.specs.Reading.{is_binding}
use Rattle.sb_sorts.proofs.Shapes.{some_map, has_name, binding_of_pair}
use Rattle.sb_sorts.proofs.head.is_binding.Goals as goal

pub returns-in-Some : goal.returns-in-Some
returns-in-Some c =
    c.is_some.ensures ∙ some_map (λ name. name.now) c.name_of.result ∙ ap is_some c.name_of.ensures
    ∙ ap has_name c.in-Some.ensures
    ∙ sym (ap (λ form. is_binding (shape_of form)) c.in-List.is ∙ binding_of_pair (shapes_in c.in-List.parts))

pub returns-in-None : goal.returns-in-None
returns-in-None c = ap has_name c.in-None.ensures
    ∙ sym (ap (λ form. is_binding (shape_of form)) c.in-List.is ∙ binding_of_pair (shapes_in c.in-List.parts))
