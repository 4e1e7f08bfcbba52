use Rattle.std.proofs.Common.{[], ◌∷◌, map, ap, ◌∙◌}
use Rattle.std.proofs.lemmas.List.{map-append}
use Rattle.sb_proof.proofs.EachFacts.{each_pushed, each_fails, each_done}
use Rattle.std.proofs.lemmas.Result.{IfOk-from_err}
use Rattle.sb_proof.proofs.shapes.each.Goals as goal

pub loop-field-preserved : goal.loop-field-preserved
loop-field-preserved g c =
    each_pushed g.T.Shape.shape g.T.Shape.meant (map g.T.Shape.meant) _ c.args.fields.now c.loop-field.field-index _
    c.loop-field.items.items c.loop-field.invariant c.in-Some.item c.push.new.self.items c.loop-field-test.true
    (rw c.in-Some.is at c.in_ok-item.ensures)
    (ap (map g.T.Shape.meant) c.in_ok-push.ensures.items
    ∙ map-append g.T.Shape.meant c.loop-field.items.items (c.in-Some.item ∷ []))

pub returns-in_default : goal.returns-in_default
returns-in_default g c =
    each_fails g.T.Shape.shape g.T.Shape.meant (map g.T.Shape.meant) _ c.args.fields.now c.loop-field.field-index _
    c.loop-field.items.items c.loop-field.invariant c.loop-field-test.true
    (rw c.in_default.is at c.in_ok-item.ensures)

pub returns : goal.returns
returns g c =
    each_done g.T.Shape.shape g.T.Shape.meant (map g.T.Shape.meant) _ c.args.fields.now c.loop-field.field-index
    (record { ref_ptr = (0, 0); now = [] }) c.loop-field.items.items c.loop-field.invariant c.loop-field-test.false

pub returns-in_err-item : goal.returns-in_err-item
returns-in_err-item g c = IfOk-from_err c.from_residual.result _ c.from_residual.ensures.0

pub returns-in_err-push : goal.returns-in_err-push
returns-in_err-push g c = IfOk-from_err c.from_residual-in_err-push.result _ c.from_residual-in_err-push.ensures.0
