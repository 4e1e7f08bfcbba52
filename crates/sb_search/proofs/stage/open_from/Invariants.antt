use Rattle.sb_search.proofs.Words.{◌≡◌, ◌-◌, drop, length, list_all, has_value}
use Rattle.sb_search.proofs.stage.open_from.Given as goal

abbrev pub invariant-loop-atom : goal.invariant-loop-atom
invariant-loop-atom g l = list_all (has_value l.trail.literals) (drop l.from (g.T.Theory.wanted l.theory))
    ≡ list_all (has_value l.trail.literals) (drop l.at (g.T.Theory.wanted l.theory))

abbrev pub decreases-loop-atom : goal.decreases-loop-atom
decreases-loop-atom g l = length (g.T.Theory.wanted l.theory) - l.at
