use Rattle.sb_solve.proofs.Words.{◌≡◌, AllSettle}
use Rattle.sb_solve.proofs.settling.settle_all.Given as goal

abbrev pub invariant-loop-atom : goal.invariant-loop-atom
invariant-loop-atom g l =
    (g.L.Tape.faults l.tape ≡ g.L.Tape.faults l.fn.tape)
    × AllSettle l.fn.proves l.fn.store l.fn.evidence l.fn.budget (g.L.Tape.told l.fn.tape) l.store l.evidence l.budget
    (g.L.Tape.told l.tape) l.ends.items
