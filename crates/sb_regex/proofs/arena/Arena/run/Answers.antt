use Rattle.std.proofs.Common.{◌-◌, arith, ◌∙◌}
use Rattle.sb_regex.proofs.CallerLemmas.{number_in}
use Rattle.sb_regex.proofs.Merging.{steps_in_front}
use Rattle.sb_regex.proofs.arena.Arena.run.Goals as goal

pub place-requires : goal.place-requires
place-requires c =
    record {
      left = number_in c.loop-n.self c.args.ids.now (c.loop-n.n - 1) _ (rw (c.loop-n.invariant.0) c.requires)
          (omega (arith, c.loop-n-test.true)) c.index-ids-n.is;
      right = number_in c.loop-n.self c.args.ids.now c.loop-n.n _ (rw (c.loop-n.invariant.0) c.requires)
          c.loop-n-test.true c.index-ids-n-in-loop-n.is;
    }

pub returns-then-ne-clause-steps : goal.returns-then-ne-clause-steps
returns-then-ne-clause-steps c =
    steps_in_front c.args.self.now c.args.step c.args.ids.now c.loop-n.n c.loop-n.invariant.2
    (rw (c.loop-n.invariant.0) at c.loop-n.invariant.3)

pub returns-clause-steps : goal.returns-clause-steps
returns-clause-steps c =
    steps_in_front c.args.self.now c.args.step c.args.ids.now c.loop-n.n c.loop-n.invariant.2
    (rw (c.loop-n.invariant.0) at c.loop-n.invariant.3)

pub returns-then-ne-clause-same : goal.returns-then-ne-clause-same
returns-then-ne-clause-same c = c.place.ensures.same ∙ c.loop-n.invariant.0
