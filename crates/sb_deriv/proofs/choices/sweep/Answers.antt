use Rattle.std.proofs.Common.{ℕ, List, ap, ◌∙◌}
use Rattle.sb_deriv.specs.Choices.{picked, values_at}
use Rattle.sb_deriv.proofs.choices.sweep.Goals as goal

pub returns-clause-values : goal.returns-clause-values
returns-clause-values c =
    λ x l. c.in_ok-fill.ensures.values x l
    ∙ ap (λ (ms : List (List (ℕ × ℕ))). picked c.args.constants.now c.args.operation.now (values_at ms x))
    c.in_ok-cursors.ensures
