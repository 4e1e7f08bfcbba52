use Rattle.sb_decide.proofs.Words.{◌≡◌, length, Knows, Stacked}
use Rattle.sb_decide.proofs.decide.Decider.leave.Given as goal

abbrev pub invariant-loop-self : goal.invariant-loop-self
invariant-loop-self l = ((stack : Stacked) → Knows l.fn.self stack → Knows l.self stack)
    × (l.self.store ≡ l.fn.self.store)

abbrev pub decreases-loop-self : goal.decreases-loop-self
decreases-loop-self l = length l.self.members.items
