use Rattle.std.proofs.Common.{◌==◌, Some, length, sym, ap, ◌∙◌}
use Rattle.sb_rules.proofs.Narrowing.{empty-set, full-set}
use Rattle.sb_rules.proofs.normal.set_of.Goals as goal

pub returns-then-is_empty-clause-normal : goal.returns-then-is_empty-clause-normal
returns-then-is_empty-clause-normal c =
    empty-set c.args.class.now
    (ap (λ rs. length rs == 0) (sym c.ranges-2.ensures.value) ∙ sym c.is_empty.ensures ∙ c.if-is_empty.true)

pub returns-clause-normal : goal.returns-clause-normal
returns-clause-normal c =
    c.in_ok-set.ensures.ok
    ∙ ap Some
    (full-set c.args.class.now
    (ap (λ rs. length rs == 0) (sym c.ranges-2.ensures.value) ∙ sym c.is_empty.ensures ∙ c.if-is_empty.false))
