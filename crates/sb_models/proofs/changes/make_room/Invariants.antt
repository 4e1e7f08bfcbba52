use Rattle.std.proofs.Common.{◌≡◌, ℕ, ◌+◌, ◌-◌, length}
use Rattle.sb_models.specs.Knowing.{word_at}
use Rattle.sb_models.proofs.changes.make_room.Given as goal

abbrev pub invariant-loop-alloc : goal.invariant-loop-alloc
invariant-loop-alloc l = (serial : ℕ) → word_at l.words.items serial ≡ word_at l.fn.words.items serial

abbrev pub decreases-loop-alloc : goal.decreases-loop-alloc
decreases-loop-alloc l = (l.fn.place + 1) - length l.words.items
