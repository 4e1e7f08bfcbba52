use Rattle.std.proofs.Common.{◌≡◌, ◌++◌}
use Rattle.sb_atoms.proofs.order.listed.Given as goal

abbrev pub invariant-loop-literal : goal.invariant-loop-literal
invariant-loop-literal l = l.all.items ++ l.literal-iterator ≡ l.set.keys
