use Rattle.std.proofs.Common.{◌∙◌, sym}
use Rattle.std.proofs.lemmas.Result.{IfOk-weaker}
use Rattle.sb_plain.proofs.Shapes.{cat_with, cat_alone, cat_or_rest}
use Rattle.sb_plain.proofs.shape.shape_of_cat.Goals as goal

pub returns-then-nullable : goal.returns-then-nullable
returns-then-nullable c =
    IfOk-weaker c.with_parts.result _ _
    (λ s e. cat_with c.args.arena.now c.args.a c.args.b _ s.operation _ s.parts.items e.0 e.1
    (cat_or_rest c.args.arena.now c.args.a c.args.b c.requires.second (sym c.nullable.ensures ∙ c.if-nullable.true)))
    c.with_parts.ensures

pub returns-else-nullable : goal.returns-else-nullable
returns-else-nullable c =
    IfOk-weaker c.with_parts-else-nullable.result _ _
    (λ s e. cat_with c.args.arena.now c.args.a c.args.b _ s.operation _ s.parts.items e.0 e.1
    (cat_alone c.args.arena.now c.args.a c.args.b c.requires.second (sym c.nullable.ensures ∙ c.if-nullable.false)))
    c.with_parts-else-nullable.ensures
