use Rattle.std.proofs.Common.{◌∙◌, sym, arith, map, ap}
use Rattle.std.proofs.lemmas.List.{take_all}
use Rattle.sb_plain.proofs.Waiting.{wanting_init, wanting_known, wanting_add}
use Rattle.sb_plain.specs.Making.{target_at}
use Rattle.sb_plain.proofs.learnt.Learnt.want.Goals as goal
use Rattle.sb_plain.proofs.learnt.Learnt.want.Goals.{in-Some+in_ok-push-in-Some, in-None+in_ok-insert-in-None}

pub loop-part-init : goal.loop-part-init
loop-part-init c =
    wanting_init c.args.self.now c.args.c c.args.parts.now c.args.targets.now.items c.args.waiting.now.keys c.requires

pub loop-part-preserved : goal.loop-part-preserved
loop-part-preserved c =
    elim c.match-found.branch [
      | in-Some+in_ok-push-in-Some w ↦
          rw (w.some-is, w.waiting-is, w.targets-is)
          (wanting_known c.args.self.now c.args.c c.args.parts.now c.loop-part.part-index c.loop-part.some
          c.loop-part.targets.items _ c.args.waiting.now.keys c.loop-part.waiting.keys c.part-item.result
          w.in-Some.target c.loop-part.invariant c.loop-part-test.true c.part-item.is
          (sym c.found.ensures ∙ w.in-Some.is) w.in_ok-push-in-Some.ensures.items)
      | in-None+in_ok-insert-in-None w ↦
          rw (w.some-is, w.waiting-is, w.targets-is)
          (wanting_add c.args.self.now c.args.c c.args.parts.now c.loop-part.part-index c.loop-part.some
          c.loop-part.targets.items c.args.waiting.now.keys c.loop-part.waiting.keys _ c.part-item.result
          c.loop-part.invariant c.loop-part-test.true c.part-item.is (sym c.found.ensures ∙ w.in-None.is)
          w.in_ok-insert-in-None.ensures.keys)
    ]

pub returns-clause-none : goal.returns-clause-none
returns-clause-none c = λ f k d l. c.loop-part.invariant.known f k d (omega (arith, l, c.loop-part-test.false))

pub returns-clause-waits : goal.returns-clause-waits
returns-clause-waits c = c.loop-part.invariant.waits

pub returns-clause-idle : goal.returns-clause-idle
returns-clause-idle c = c.loop-part.invariant.idle

pub returns-clause-added : goal.returns-clause-added
returns-clause-added c = c.loop-part.invariant.added

pub returns-clause-targets : goal.returns-clause-targets
returns-clause-targets c =
    λ known. c.loop-part.invariant.made known
    ∙ ap (map (target_at c.args.self.now c.args.c))
    (take_all c.loop-part.part-index c.args.parts.now c.loop-part-test.false)
