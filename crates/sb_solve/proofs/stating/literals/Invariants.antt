use Rattle.sb_solve.proofs.Words.{◌≡◌, take, AreStated}
use Rattle.sb_solve.proofs.stating.literals.Given as goal

abbrev pub invariant-loop-place : goal.invariant-loop-place
invariant-loop-place g l =
    (g.L.Tape.faults l.tape ≡ g.L.Tape.faults l.fn.tape)
    × AreStated l.fn.stack (take l.place-index l.fn.places) l.fn.store l.store l.fn.evidence l.evidence
    (g.L.Tape.told l.fn.tape) (g.L.Tape.told l.tape) l.literals.items
