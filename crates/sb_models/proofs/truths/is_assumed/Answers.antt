use Rattle.std.proofs.Common.{ap, ◌∙◌}
use Rattle.std.proofs.Math.Bool.{beq}
use Rattle.sb_models.specs.Knowing.{truth_at}
use Rattle.sb_models.specs.Tried.{is_assumed}
use Rattle.sb_models.proofs.KindFacts.{beq_same}
use Rattle.sb_models.proofs.truths.is_assumed.Goals as goal

pub returns : goal.returns
returns c =
    ap (λ b. beq b c.assumption.inside.positive) c.truth_at.ensures
    ∙ (beq_same (truth_at c.args.truths.now c.assumption.inside.serial.0) c.assumption.inside.positive
    ∙ ap (is_assumed c.args.truths.now) c.assumption.view_is)
