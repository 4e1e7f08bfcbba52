use Rattle.std.proofs.Common.{ℕ, Bool, ap}
use Rattle.sb_stack.proofs.assuming.Assumption.is_positive.Goals as goal

pub returns : goal.returns
returns c = ap (λ (a : ℕ × Bool). a.1) c.self.view_is
