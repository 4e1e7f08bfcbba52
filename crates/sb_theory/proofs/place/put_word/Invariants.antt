use Rattle.sb_theory.proofs.Words.{◌+◌, ◌-◌, ◌≡◌, length, ℕ, word_at}
use Rattle.sb_theory.proofs.place.put_word.Given as goal

abbrev pub invariant-loop-words : goal.invariant-loop-words
invariant-loop-words l = (y : ℕ) → word_at l.words.items y ≡ word_at l.fn.words.items y

abbrev pub decreases-loop-words : goal.decreases-loop-words
decreases-loop-words l = l.place + 1 - length l.words.items
