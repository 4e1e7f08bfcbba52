use Rattle.sb_search.proofs.Words.{◌≡◌, ◌-◌, true, take, length, held, are_true}
use Rattle.sb_search.proofs.stage.next_assumption.Given as goal

abbrev pub invariant-loop-next : goal.invariant-loop-next
invariant-loop-next l = are_true (held l.trail.literals) (take l.next l.assumptions) ≡ true

abbrev pub decreases-loop-next : goal.decreases-loop-next
decreases-loop-next l = length l.assumptions - l.next
