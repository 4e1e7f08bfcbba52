use Rattle.std.proofs.Common.{◌≡◌, ℕ, length}
use Rattle.sb_regex.specs.Steps.{in_some}
use Rattle.sb_regex.proofs.members.unite.Given as goal

abbrev pub invariant-loop-left : goal.invariant-loop-left
invariant-loop-left l = (c : ℕ) → in_some l.classes.items c ≡ in_some l.fn.classes.items c

abbrev pub decreases-loop-left : goal.decreases-loop-left
decreases-loop-left l = length l.classes.items
