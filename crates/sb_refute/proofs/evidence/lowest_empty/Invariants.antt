use Rattle.sb_refute.proofs.Words.{◌-◌, length, take, IsLowestEmpty}
use Rattle.sb_refute.proofs.evidence.lowest_empty.Given as goal

abbrev pub invariant-loop-number : goal.invariant-loop-number
invariant-loop-number l = IsLowestEmpty (take l.number l.clauses) l.lowest

abbrev pub decreases-loop-number : goal.decreases-loop-number
decreases-loop-number l = length l.clauses - l.number
