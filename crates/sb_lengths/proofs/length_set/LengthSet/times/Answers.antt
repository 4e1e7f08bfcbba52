use Rattle.std.proofs.Common.{ap, ◌∙◌, arith}
use Rattle.sb_lang.specs.Languages.{power}
use Rattle.sb_lengths.specs.LengthSets.{of_lengths}
use Rattle.sb_lengths.proofs.Powers.{power_begun, power_next}
use Rattle.sb_lengths.proofs.length_set.LengthSet.times.Goals as goal

pub loop-step-init : goal.loop-step-init
loop-step-init c = power_begun c.args.self c.of-these.result c.of-these.ensures

pub loop-step-preserved : goal.loop-step-preserved
loop-step-preserved c =
    power_next c.args.self c.loop-step.these c.sums-these.result c.loop-step._step c.sums-these.ensures
    c.loop-step.invariant

pub returns : goal.returns
returns c w l =
    c.loop-step.invariant w l
    ∙ ap (λ i. power (of_lengths c.args.self) i w) (omega (arith, c.loop-step-test.false, c.loop-step.auto._step-end))
