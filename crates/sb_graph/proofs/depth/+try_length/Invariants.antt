use Rattle.sb_graph.specs.Lengths.{IsExpanding}
use Rattle.sb_graph.proofs.depth.+try_length.Given as goal

abbrev pub invariant-loop-place : goal.invariant-loop-place
invariant-loop-place l =
    IsExpanding l.fn.arena l.arena l.fn.deriver l.deriver l.failed.keys l.state l.wanted l.count l.place
    l.fn.codes.items l.codes.items

abbrev pub decreases-try_length : goal.decreases-try_length
decreases-try_length l = l.wanted
