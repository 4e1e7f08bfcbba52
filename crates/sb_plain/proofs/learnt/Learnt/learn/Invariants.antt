use Rattle.sb_plain.proofs.Waiting.{Deriving, measure}
use Rattle.sb_plain.proofs.learnt.Learnt.learn.Given as goal

abbrev pub invariant-loop-r : goal.invariant-loop-r
invariant-loop-r l = Deriving l.fn.arena l.arena l.self l.c l.r l.next l.waiting.keys

abbrev pub decreases-loop-r : goal.decreases-loop-r
decreases-loop-r l = measure l.self l.c l.r l.next
