use Rattle.std.proofs.Common.{◌∙◌, ap, arith}
use Rattle.std.specs.List.{list_any}
use Rattle.std.proofs.lemmas.List.{take_all}
use Rattle.sb_plain.proofs.Runs.{run_pushed, run_skipped}
use Rattle.sb_plain.proofs.shape.without_runs.Goals as goal
use Rattle.sb_plain.proofs.shape.without_runs.Goals.{then-not-ends_with+in_ok-push, else-not-ends_with}

pub loop-id-preserved : goal.loop-id-preserved
loop-id-preserved c =
    elim c.if-not-ends_with.branch [
      | then-not-ends_with+in_ok-push w ↦
          rw (w.some-is)
          (run_pushed c.loop-id.some.items _ c.args.ids.now c.loop-id.id-index c.id-item.result c.loop-id-test.true
          c.id-item.is w.in_ok-push.ensures.items c.loop-id.invariant)
      | else-not-ends_with w ↦
          rw (w.some-is)
          (run_skipped c.loop-id.some.items c.args.ids.now c.loop-id.id-index c.id-item.result c.loop-id-test.true
          c.id-item.is (rw (c.deref.ensures.value) at c.ends_with.ensures w.if-not-ends_with.false) c.loop-id.invariant)
    ]

pub returns : goal.returns
returns c = λ t. c.loop-id.invariant t
    ∙ ap (list_any t) (take_all c.loop-id.id-index c.args.ids.now (omega (arith, c.loop-id-test.false)))
