use Rattle.std.proofs.Common.{◌≡◌, ◌++◌, replicate}
use Rattle.sb_stack.proofs.leaving.push_levels.Given as goal

abbrev pub invariant-loop-place : goal.invariant-loop-place
invariant-loop-place l = l.levels.items ≡ l.fn.levels.items ++ replicate l._place l.level
