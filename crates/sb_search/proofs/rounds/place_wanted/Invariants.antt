use Rattle.sb_search.proofs.Words.{◌≡◌, ◌-◌, true, take, length, have_places, Widens}
use Rattle.sb_search.proofs.rounds.place_wanted.Given as goal

abbrev pub invariant-loop-atom : goal.invariant-loop-atom
invariant-loop-atom g l = Widens l.fn.engine l.engine
    × (have_places l.engine.trail.reserved (take l.at (g.T.Theory.wanted l.theory)) ≡ true)

abbrev pub decreases-loop-atom : goal.decreases-loop-atom
decreases-loop-atom g l = length (g.T.Theory.wanted l.theory) - l.at
