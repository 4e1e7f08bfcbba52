use Rattle.sb_search.proofs.Words.{◌≡◌, true, take, are_reserved, Widens}
use Rattle.sb_search.proofs.rounds.place_all.Given as goal

abbrev pub invariant-loop-literal : goal.invariant-loop-literal
invariant-loop-literal l = Widens l.fn.engine l.engine
    × (are_reserved l.engine.trail.reserved (take l.literal-index l.literals) ≡ true)
