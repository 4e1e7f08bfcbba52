use Rattle.std.proofs.Common.{◌++◌, map, sym, ap, ◌∙◌}
use Rattle.std.proofs.lemmas.List.{append-nil}
use Rattle.sb_reader.specs.Forms.{shape_of, shapes_in}
use Rattle.sb_script.specs.Commands.{list_of}
use Rattle.sb_script.specs.Replies.{assumed_form}
use Rattle.sb_sorts.specs.Scopes.{names_in}
use Rattle.sb_stack.specs.Assumptions.{assumed_in}
use Rattle.sb_stack.specs.Values.{with_names}
use Rattle.sb_stack.proofs.Items.{items_step}
use Rattle.sb_stack.proofs.assuming.assumed_forms.Goals as goal

pub loop-form-preserved : goal.loop-form-preserved
loop-form-preserved c = λ ts.
    items_step assumed_in (assumed_form (with_names (names_in ts c.args.scope.now))) c.loop-form.found.items
    c.push.new.self.items c.assumed_form.result (shape_of c.in-Some.form) _ (list_of (shapes_in c.in-Some.behind)) _
    c.in_ok-push.ensures.items (c.assumed_form.ensures ts) (ap list_of c.in-Some.ensures) (c.loop-form.invariant ts)

pub returns : goal.returns
returns c = λ ts.
    let found = map assumed_in c.loop-form.found.items in
    sym (append-nil found)
    ∙ ap (λ fs. found ++ map (assumed_form (with_names (names_in ts c.args.scope.now))) (list_of fs))
    (sym c.in_default.ensures)
    ∙ c.loop-form.invariant ts
