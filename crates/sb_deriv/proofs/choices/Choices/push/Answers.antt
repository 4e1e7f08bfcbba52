use Rattle.std.proofs.Common.{◌∷◌, [], ◌++◌, ap, arith, ◌∙◌}
use Rattle.sb_deriv.proofs.Flat.{one_more}
use Rattle.sb_deriv.proofs.choices.Choices.push.Goals as goal

pub returns : goal.returns
returns c =
    one_more c.self.inside.ids.items c.extend_from_slice.new.self.items c.args.ids.now c.self.inside.pieces.items
    c.push.new.self.items c.args.first c.len-start.result c.len.result c.self.invariant
    c.in_ok-extend_from_slice.ensures.items (omega (arith, c.len-start.ensures, c.self.inside.ids.ok))
    (omega (arith, c.len.ensures, c.extend_from_slice.new.self.ok)) c.in_ok-push.ensures.items
    ∙ ap (λ x. x ++ (c.args.first, c.args.ids.now) ∷ []) c.self.view_is
