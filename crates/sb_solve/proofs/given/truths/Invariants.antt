use Rattle.sb_solve.proofs.Words.{◌≡◌, ℕ, take, truth_in, truth_by}
use Rattle.sb_solve.proofs.given.truths.Given as goal

abbrev pub invariant-loop-atom : goal.invariant-loop-atom
invariant-loop-atom l = (serial : ℕ) → truth_in l.truths.items serial
    ≡ truth_by l.atoms l.trail.literals (take l.atom-index l.wanted) serial
