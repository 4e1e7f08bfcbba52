use Rattle.sb_session.proofs.Words.{ℕ, Option, length, ap, subst, LeavesKnown, LeavesProof}
use Rattle.sb_session.proofs.command.leave.Goals as goal

pub returns-clause-knows : goal.returns-clause-knows
returns-clause-knows c =
    subst (λ (n : ℕ). LeavesKnown n c.args.decider.now c.leave.new.self)
    (ap length c.assertions-count.ensures.value) c.in_ok-leave.ensures.knows

pub returns-clause-proof : goal.returns-clause-proof
returns-clause-proof c =
    subst (λ (n : ℕ). LeavesProof c.args.level n c.args.prover.now c.leave-2.new.self)
    (ap length c.assertions-count.ensures.value)
    (subst (λ (level : Option ℕ). LeavesProof level (length c.assertions-count.result.now) c.args.prover.now
    c.leave-2.new.self) c.level_of.ensures
    (record {
      left = c.leave-2.ensures.left;
      levels = c.leave-2.ensures.levels;
      atoms = c.leave-2.ensures.atoms;
      sound = c.leave-2.ensures.sound;
    }))
