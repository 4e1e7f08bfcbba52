use Rattle.sb_graph.specs.Lengths.{IsSearching}
use Rattle.sb_graph.proofs.depth.try_lengths.Given as goal

abbrev pub invariant-loop-wanted : goal.invariant-loop-wanted
invariant-loop-wanted l =
    IsSearching l.fn.arena l.arena l.fn.deriver l.deriver l.failed.keys l.root l.wanted l.codes.items
