use Rattle.std.proofs.Common.{Bool, inl}
use Rattle.std.proofs.lemmas.Result.{IfOk-from_err, err_from_is_err_and}
use Rattle.sb_trace.proofs.Growing.{traces_none}
use Rattle.sb_trace.proofs.Spent.{spent_none}
use Rattle.sb_trace.proofs.Exits.{counts_on}
use Rattle.sb_trace.proofs.trace.Trace.show.Goals as goal

pub returns-in-Alive-clause-puts : goal.returns-in-Alive-clause-puts
returns-in-Alive-clause-puts g c = λ asked before tracks counts.
    traces_none asked before c.args.arena.now c.args.graph.now.memo c.args.self.now c.args.budget.now
    (g.L.Tape.told c.args.tape.now) tracks counts

pub returns-in-Alive-clause-only : goal.returns-in-Alive-clause-only
returns-in-Alive-clause-only g c = λ n h. inl h

pub returns-in-Alive-clause-steps : goal.returns-in-Alive-clause-steps
returns-in-Alive-clause-steps g c = spent_none c.args.budget.now

pub returns-in_err-bury-in-Dead : goal.returns-in_err-bury-in-Dead
returns-in_err-bury-in-Dead g c =
    let x = c.from_residual in
    let p = err_from_is_err_and x.result x.ensures.1 in
    let b = c.in_err-bury-in-Dead.ensures in
    record {
      found = IfOk-from_err x.result _ x.ensures.0;
      puts = IfOk-from_err x.result _ x.ensures.0;
      alive = IfOk-from_err x.result _ x.ensures.0;
      dead = IfOk-from_err x.result _ x.ensures.0;
      spent = IfOk-from_err x.result _ x.ensures.0;
      only = IfOk-from_err x.result _ x.ensures.0;
      stays = b.stays;
      expanded_stay = b.expanded_stay;
      extends = b.extends;
      graph = b.graph;
      marks = b.marks;
      derivatives_stay = b.derivatives_stay;
      steps = b.steps;
      counts = counts_on Bool x.result p.0 _ _ _ p.1 p.2 b.counts;
    }

pub returns-then-branch-clause-puts : goal.returns-then-branch-clause-puts
returns-then-branch-clause-puts g c = c.in_ok-bury-in-Dead.ensures.puts

pub returns-then-branch-clause-only : goal.returns-then-branch-clause-only
returns-then-branch-clause-only g c = c.in_ok-bury-in-Dead.ensures.only

pub returns-then-branch-clause-stays : goal.returns-then-branch-clause-stays
returns-then-branch-clause-stays g c = c.in_ok-bury-in-Dead.ensures.stays

pub returns-then-branch-clause-extends : goal.returns-then-branch-clause-extends
returns-then-branch-clause-extends g c = c.in_ok-bury-in-Dead.ensures.extends

pub returns-then-branch-clause-graph : goal.returns-then-branch-clause-graph
returns-then-branch-clause-graph g c = c.in_ok-bury-in-Dead.ensures.graph

pub returns-then-branch-clause-marks : goal.returns-then-branch-clause-marks
returns-then-branch-clause-marks g c = c.in_ok-bury-in-Dead.ensures.marks

pub returns-then-branch-clause-derivatives_stay : goal.returns-then-branch-clause-derivatives_stay
returns-then-branch-clause-derivatives_stay g c = c.in_ok-bury-in-Dead.ensures.derivatives_stay

pub returns-then-branch-clause-steps : goal.returns-then-branch-clause-steps
returns-then-branch-clause-steps g c = c.in_ok-bury-in-Dead.ensures.steps

pub returns-then-branch-clause-counts : goal.returns-then-branch-clause-counts
returns-then-branch-clause-counts g c = c.in_ok-bury-in-Dead.ensures.counts

pub returns-else-branch-clause-puts : goal.returns-else-branch-clause-puts
returns-else-branch-clause-puts g c = c.in_ok-bury-in-Dead.ensures.puts

pub returns-else-branch-clause-only : goal.returns-else-branch-clause-only
returns-else-branch-clause-only g c = c.in_ok-bury-in-Dead.ensures.only

pub returns-else-branch-clause-stays : goal.returns-else-branch-clause-stays
returns-else-branch-clause-stays g c = c.in_ok-bury-in-Dead.ensures.stays

pub returns-else-branch-clause-extends : goal.returns-else-branch-clause-extends
returns-else-branch-clause-extends g c = c.in_ok-bury-in-Dead.ensures.extends

pub returns-else-branch-clause-graph : goal.returns-else-branch-clause-graph
returns-else-branch-clause-graph g c = c.in_ok-bury-in-Dead.ensures.graph

pub returns-else-branch-clause-marks : goal.returns-else-branch-clause-marks
returns-else-branch-clause-marks g c = c.in_ok-bury-in-Dead.ensures.marks

pub returns-else-branch-clause-derivatives_stay : goal.returns-else-branch-clause-derivatives_stay
returns-else-branch-clause-derivatives_stay g c = c.in_ok-bury-in-Dead.ensures.derivatives_stay

pub returns-else-branch-clause-steps : goal.returns-else-branch-clause-steps
returns-else-branch-clause-steps g c = c.in_ok-bury-in-Dead.ensures.steps

pub returns-else-branch-clause-counts : goal.returns-else-branch-clause-counts
returns-else-branch-clause-counts g c = c.in_ok-bury-in-Dead.ensures.counts

pub returns-then-branch-clause-spent : goal.returns-then-branch-clause-spent
returns-then-branch-clause-spent g c = λ spent. absurd (Prim.cc (spent))

pub returns-else-branch-clause-dead : goal.returns-else-branch-clause-dead
returns-else-branch-clause-dead g c = λ dead. absurd (Prim.cc (dead))

pub returns-in-Alive-clause-spent : goal.returns-in-Alive-clause-spent
returns-in-Alive-clause-spent g c = λ spent. absurd (Prim.cc (spent))

pub returns-in-Alive-clause-dead : goal.returns-in-Alive-clause-dead
returns-in-Alive-clause-dead g c = λ dead. absurd (Prim.cc (dead))

pub returns-in-Alive-clause-expanded_stay : goal.returns-in-Alive-clause-expanded_stay
returns-in-Alive-clause-expanded_stay g c = λ n was. was

pub returns-then-branch-clause-expanded_stay : goal.returns-then-branch-clause-expanded_stay
returns-then-branch-clause-expanded_stay g c = c.in_ok-bury-in-Dead.ensures.expanded_stay

pub returns-else-branch-clause-expanded_stay : goal.returns-else-branch-clause-expanded_stay
returns-else-branch-clause-expanded_stay g c = c.in_ok-bury-in-Dead.ensures.expanded_stay
