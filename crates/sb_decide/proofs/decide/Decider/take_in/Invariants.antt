use Rattle.sb_decide.proofs.Words.{◌≡◌, ◌-◌, length, Grows, Knows}
use Rattle.sb_decide.proofs.decide.Decider.take_in.Given as goal

abbrev pub invariant-loop-assertions : goal.invariant-loop-assertions
invariant-loop-assertions l = Knows l.self l.fn.stack × (length l.self.constants.items ≡ length l.fn.stack.scope.sorts)
    × Grows l.fn.stack.table l.fn.self.store l.self.store

abbrev pub decreases-loop-assertions : goal.decreases-loop-assertions
decreases-loop-assertions l = length l.fn.stack.assertions - length l.self.members.items
