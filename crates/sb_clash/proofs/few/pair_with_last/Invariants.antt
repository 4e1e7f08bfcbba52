use Rattle.sb_clash.proofs.Words.{◌-◌, Explores}
use Rattle.sb_clash.proofs.few.pair_with_last.Given as goal

abbrev pub invariant-loop-place : goal.invariant-loop-place
invariant-loop-place l = Explores l.fn.arena l.arena l.fn.graph l.graph

abbrev pub decreases-loop-place : goal.decreases-loop-place
decreases-loop-place l = l.last - l.place
