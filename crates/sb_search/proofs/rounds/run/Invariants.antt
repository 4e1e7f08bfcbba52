use Rattle.sb_search.proofs.Words.{◌≡◌, ◌-◌, moment, measure_at, left_at, IsReady, IsNoWorse, Steps}
use Rattle.sb_search.proofs.rounds.run.Given as goal

abbrev pub invariant-steps : goal.invariant-steps
invariant-steps g l = Steps g.T.Theory
    (moment l.fn.theory l.fn.engine l.fn.budget (g.L.Tape.told l.fn.tape))
    (moment l.theory l.engine l.budget (g.L.Tape.told l.tape))
    × IsReady g.T.Theory l.assumptions l.stage l.theory l.engine × (g.L.Tape.faults l.tape ≡ g.L.Tape.faults l.fn.tape)

abbrev pub decreases-steps : goal.decreases-steps
decreases-steps g l = l.budget.limit - l.budget.spent

abbrev pub invariant-moves : goal.invariant-moves
invariant-moves g l = Steps g.T.Theory
    (moment l.fn.theory l.fn.engine l.fn.budget (g.L.Tape.told l.fn.tape))
    (moment l.theory l.engine l.budget (g.L.Tape.told l.tape))
    × IsReady g.T.Theory l.assumptions l.stage l.theory l.engine × (g.L.Tape.faults l.tape ≡ g.L.Tape.faults l.fn.tape)
    × (l.budget.spent ≡ l.start)

abbrev pub decreases-moves : goal.decreases-moves
decreases-moves g l = measure_at g.T.Theory (moment l.theory l.engine l.budget (g.L.Tape.told l.tape))

abbrev pub invariant-decisions : goal.invariant-decisions
invariant-decisions g l = Steps g.T.Theory
    (moment l.fn.theory l.fn.engine l.fn.budget (g.L.Tape.told l.fn.tape))
    (moment l.theory l.engine l.budget (g.L.Tape.told l.tape))
    × IsReady g.T.Theory l.assumptions l.stage l.theory l.engine × (g.L.Tape.faults l.tape ≡ g.L.Tape.faults l.fn.tape)
    × IsNoWorse g.T.Theory
    (moment l.initial.theory l.initial.engine l.initial.budget (g.L.Tape.told l.initial.tape))
    (moment l.theory l.engine l.budget (g.L.Tape.told l.tape))

abbrev pub decreases-decisions : goal.decreases-decisions
decreases-decisions g l = left_at l.engine
