use Rattle.sb_theory.specs.Walks.{pieces_at}
use Rattle.sb_theory.proofs.Going.{IsWalking}
use Rattle.sb_theory.proofs.strings.Strings.walk.Given as goal

abbrev pub invariant-loop-walked : goal.invariant-loop-walked
invariant-loop-walked g l =
    IsWalking l.fn.self l.self l.trail.literals l.fn.budget l.budget (g.L.Tape.told l.fn.tape) (g.L.Tape.told l.tape)
    (g.L.Tape.faults l.fn.tape) (g.L.Tape.faults l.tape) l.at

abbrev pub decreases-loop-walked : goal.decreases-loop-walked
decreases-loop-walked g l = pieces_at l.self l.at.atom
