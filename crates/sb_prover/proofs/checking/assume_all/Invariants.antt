use Rattle.sb_prover.proofs.Words.{◌≡◌, ◌||◌, ℕ, take, is_assumed, truth_in}
use Rattle.sb_prover.proofs.checking.assume_all.Given as goal

abbrev pub invariant-loop-assumption : goal.invariant-loop-assumption
invariant-loop-assumption l = (n : ℕ)
    → truth_in l.truths.items n
    ≡ (truth_in l.fn.truths.items n || is_assumed (take l.assumption-index l.given) n)
