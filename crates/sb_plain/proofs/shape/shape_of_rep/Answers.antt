use Rattle.std.proofs.Common.{◌-◌, refl, arith}
use Rattle.std.proofs.lemmas.Result.{IfOk-weaker}
use Rattle.sb_plain.proofs.Shapes.{rep_with, rep_nothing, rep_once_less}
use Rattle.sb_plain.proofs.shape.shape_of_rep.Goals as goal

pub returns-then-most-eq0 : goal.returns-then-most-eq0
returns-then-most-eq0 c =
    IfOk-weaker c.with_parts.result _ _
    (λ s e. rep_with c.args.arena.now c.args.a c.args.least c.args.most _ s.operation _ s.parts.items e.0 e.1
    (rep_nothing c.args.arena.now c.args.a c.args.least c.args.most c.if-most-eq0.true))
    c.with_parts.ensures

pub returns : goal.returns
returns c =
    IfOk-weaker c.with_parts-2.result _ _
    (λ s e. rep_with c.args.arena.now c.args.a c.args.least c.args.most _ s.operation _ s.parts.items e.0 e.1
    (rep_once_less c.args.arena.now c.args.a c.args.least c.args.most c.saturating_sub.result (c.args.most - 1)
    c.requires (omega (arith, c.if-most-eq0.false)) c.saturating_sub.ensures refl))
    c.with_parts-2.ensures
