use Rattle.std.proofs.Common.{◌≡◌, ◌<◌, ◌+◌, ◌-◌, false, length, take, subst, arith}
use Rattle.sb_proof.specs.Lines.{value_in}
use Rattle.sb_models.specs.Knowing.{truth_at}
use Rattle.sb_models.specs.Tried.{truth_in, truths_in}
use Rattle.sb_models.proofs.WordFacts.{AreRest, rest_next, rest_none, none_taken}
use Rattle.sb_models.proofs.truths.truths_of.Goals as goal

pub loop-place-preserved : goal.loop-place-preserved
loop-place-preserved c =
    let low : c.loop-place.place - 1 < length c.args.values.now =
    omega (arith, c.loop-place-test.true, c.loop-place.invariant.0) in
    let place : c.loop-place.place ≡ (c.loop-place.place - 1) + 1 = omega (arith, c.loop-place-test.true) in (
      omega (arith, low),
      rest_next (λ v. truth_in (value_in v)) c.args.constants.now c.args.values.now (λ serial. false)
          (truth_at c.loop-place.truths.items) (truth_at c.put.new.truths.items) (c.loop-place.place - 1) _
          c.index-values-place.result c.requires low c.index-values-place.is
          (rw c.truth_of.ensures at c.in_ok-put.ensures)
          (subst
          (λ n. AreRest c.args.constants.now (truths_in c.args.values.now) (λ serial. false)
          (take n (truths_in c.args.values.now)) (truth_at c.loop-place.truths.items)) place c.loop-place.invariant.1),
    )

pub returns : goal.returns
returns c =
    rest_none c.args.constants.now (truths_in c.args.values.now)
    (take c.loop-place.place (truths_in c.args.values.now)) (λ serial. false) (truth_at c.loop-place.truths.items)
    (none_taken c.loop-place.place (truths_in c.args.values.now) (omega (arith, c.loop-place-test.false)))
    c.loop-place.invariant.1
