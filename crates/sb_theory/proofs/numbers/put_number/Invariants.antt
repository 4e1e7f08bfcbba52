use Rattle.sb_theory.proofs.Words.{◌+◌, ◌-◌, ◌≡◌, length, ℕ, number_at}
use Rattle.sb_theory.proofs.numbers.put_number.Given as goal

abbrev pub invariant-loop-numbers : goal.invariant-loop-numbers
invariant-loop-numbers l = (y : ℕ) → number_at l.numbers.items y ≡ number_at l.fn.numbers.items y

abbrev pub decreases-loop-numbers : goal.decreases-loop-numbers
decreases-loop-numbers l = l.place + 1 - length l.numbers.items
