use Rattle.std.proofs.Common.{◌≡◌, ◌+◌, ◌-◌, ℕ, length}
use Rattle.sb_deriv.specs.Faithful.{entry_of}
use Rattle.sb_deriv.proofs.deriver.make_room.Given as goal

abbrev pub invariant-loop-memo : goal.invariant-loop-memo
invariant-loop-memo l = (n : ℕ) → entry_of l.memo.items n ≡ entry_of l.fn.memo.items n

abbrev pub decreases-loop-memo : goal.decreases-loop-memo
decreases-loop-memo l = l.number + 1 - length l.memo.items
