use Rattle.std.proofs.Common.{◌≤◌, false, length, take}
use Rattle.sb_models.specs.Knowing.{truth_at}
use Rattle.sb_models.specs.Tried.{truths_in}
use Rattle.sb_models.proofs.WordFacts.{AreRest}
use Rattle.sb_models.proofs.truths.truths_of.Given as goal

abbrev pub invariant-loop-place : goal.invariant-loop-place
invariant-loop-place l = (l.place ≤ length l.fn.values)
    × AreRest l.fn.constants (truths_in l.fn.values) (λ serial. false) (take l.place (truths_in l.fn.values))
    (truth_at l.truths.items)

abbrev pub decreases-loop-place : goal.decreases-loop-place
decreases-loop-place l = l.place
