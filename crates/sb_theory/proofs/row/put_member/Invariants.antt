use Rattle.sb_theory.proofs.Words.{◌+◌, ◌-◌, ◌≡◌, length, ℕ, row_at}
use Rattle.sb_theory.proofs.row.put_member.Given as goal

abbrev pub invariant-loop-alloc : goal.invariant-loop-alloc
invariant-loop-alloc l = (y : ℕ) → row_at l.rows.items y ≡ row_at l.fn.rows.items y

abbrev pub decreases-loop-alloc : goal.decreases-loop-alloc
decreases-loop-alloc l = l.place + 1 - length l.rows.items
