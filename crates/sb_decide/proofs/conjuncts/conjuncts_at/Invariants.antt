use Rattle.sb_decide.proofs.Words.{◌≡◌, ℕ, ◌<◌, List, length, All, AreRooted, Regex, places_in}
use Rattle.sb_decide.proofs.RootFacts.{Walking}
use Rattle.sb_decide.proofs.conjuncts.conjuncts_at.Given as goal

abbrev pub invariant-loop-place : goal.invariant-loop-place
invariant-loop-place l =
    All (λ place. place < length l.fn.members) l.left
    × ((rs : List Regex) (n : ℕ) → l.fn.places ≡ places_in 0 n l.fn.members → AreRooted rs l.fn.members l.fn.roots
    → Walking rs l.fn.members n l.left l.ids.items)

abbrev pub decreases-loop-place : goal.decreases-loop-place
decreases-loop-place l = length l.left
