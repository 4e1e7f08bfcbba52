use Rattle.std.proofs.Common.{sym, ◌∙◌}
use Rattle.sb_sorts.proofs.Applying.{other_count, other_sorts, sorts_fit}
use Rattle.sb_sorts.proofs.apply.judge_definition.Goals as goal

pub returns-then-parameters-sorts : goal.returns-then-parameters-sorts
returns-then-parameters-sorts c = λ t.
    other_count c.args.parameters.now c.args.sorts.now t c.if-parameters-sorts.true

pub returns-then-are_sorts : goal.returns-then-are_sorts
returns-then-are_sorts c =
    sorts_fit c.args.parameters.now c.args.sorts.now c.if-parameters-sorts.false
    (sym c.are_sorts.ensures ∙ c.if-are_sorts.true)

pub returns-else-are_sorts : goal.returns-else-are_sorts
returns-else-are_sorts c = λ t.
    other_sorts c.args.parameters.now c.args.sorts.now t c.if-parameters-sorts.false
    (sym c.are_sorts.ensures ∙ c.if-are_sorts.false)
