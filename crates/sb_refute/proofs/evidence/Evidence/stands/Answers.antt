use Rattle.sb_refute.proofs.Words.{subst, Stand}
use Rattle.sb_refute.proofs.evidence.Evidence.stands.Goals as goal

pub returns : goal.returns
returns c = subst Stand c.self.view_is c.self.invariant.0
