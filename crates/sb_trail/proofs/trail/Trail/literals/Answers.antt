use Rattle.std.proofs.Common.{subst}
use Rattle.sb_trail.specs.Assignments.{Assignments, AreDistinct}
use Rattle.sb_trail.proofs.ValueLemmas.{IsConsistent-held}
use Rattle.sb_trail.proofs.trail.Trail.literals.Goals as goal

pub returns-clause-consistent : goal.returns-clause-consistent
returns-clause-consistent c =
    IsConsistent-held c.args.self.now.literals
    (subst (λ (t : Assignments). AreDistinct t.literals) c.self.view_is c.self.invariant.trail.distinct)
