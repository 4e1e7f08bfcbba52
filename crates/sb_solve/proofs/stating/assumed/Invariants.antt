use Rattle.sb_solve.proofs.Words.{◌≡◌, take, Assumes}
use Rattle.sb_solve.proofs.stating.assumed.Given as goal

abbrev pub invariant-loop-assumption : goal.invariant-loop-assumption
invariant-loop-assumption g l =
    (g.L.Tape.faults l.tape ≡ g.L.Tape.faults l.fn.tape)
    × Assumes (take l.assumption-index l.fn.given) l.fn.arena l.fn.evidence l.evidence (g.L.Tape.told l.fn.tape)
    (g.L.Tape.told l.tape) l.literals.items
