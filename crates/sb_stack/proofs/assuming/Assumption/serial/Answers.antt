use Rattle.std.proofs.Common.{ℕ, Bool, ap}
use Rattle.sb_stack.proofs.assuming.Assumption.serial.Goals as goal

pub returns : goal.returns
returns c = ap (λ (a : ℕ × Bool). a.0) c.self.view_is
