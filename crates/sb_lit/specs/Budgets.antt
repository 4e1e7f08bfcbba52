-- Budgets of steps.
use Rattle.std.specs.Prelude.{ℕ}

-- how many steps were spent, and how many there are in all
pub record Spending : Type 0 where
  pub spent : ℕ
  pub limit : ℕ
