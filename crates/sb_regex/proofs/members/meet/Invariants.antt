use Rattle.std.proofs.Common.{◌≡◌, ℕ, length}
use Rattle.sb_regex.specs.Steps.{in_all}
use Rattle.sb_regex.proofs.members.meet.Given as goal

abbrev pub invariant-loop-left : goal.invariant-loop-left
invariant-loop-left l =
    ((c : ℕ) → in_all l.classes.items c ≡ in_all l.fn.classes.items c)
    × (length l.classes.items ≡ 0 → length l.fn.classes.items ≡ 0)
    × (length l.fn.classes.items ≡ 0 → length l.classes.items ≡ 0)

abbrev pub decreases-loop-left : goal.decreases-loop-left
decreases-loop-left l = length l.classes.items
