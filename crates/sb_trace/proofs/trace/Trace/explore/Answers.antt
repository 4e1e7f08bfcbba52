use Rattle.std.proofs.Common.{IfOk, sym, subst, ap, ◌∙◌}
use Rattle.std.proofs.lemmas.Result.{IfOk-from_err, err_from_is_err_and}
use Rattle.std.specs.Result.{OnOk}
use Rattle.sb_lang.specs.Language.{language}
use Rattle.sb_regex.proofs.CallerLemmas.{at_kept, number_kept, extends_more}
use Rattle.sb_regex.specs.Numbered.{regex_at}
use Rattle.sb_graph.specs.Witness.{IsFinding, IfFound}
use Rattle.sb_trace.specs.Tracking.{IsExploring}
use Rattle.sb_trace.specs.Reaching.{ExpandsReached}
use Rattle.sb_trace.proofs.Growing.{traces_grown, stays_same}
use Rattle.sb_trace.proofs.Exits.{on_ok_more, counts_none}
use Rattle.sb_trace.proofs.Spent.{spent_none}
use Rattle.sb_graph.specs.Findings.{is_marked}
use Rattle.sb_trace.proofs.trace.Trace.explore.Goals as goal

pub show-requires-clause-known : goal.show-requires-clause-known
show-requires-clause-known g c =
    number_kept c.args.arena.now c.answer_within.new.arena c.args.root c.in_ok-explored.ensures.extends
    c.requires.known

pub show-requires-clause-found : goal.show-requires-clause-found
show-requires-clause-found g c =
    let h = c.in_ok-explored.ensures in
    let first = c.args.arena.now in
    let found = subst (λ w. IfFound w (IsFinding (language (regex_at first c.args.root)))) c.in-Found.is h.found in
    subst (λ r. IsFinding (language r) c.in-Found.explored)
    (sym (at_kept first c.answer_within.new.arena c.args.root h.extends c.requires.known)) found

pub returns-in-Found-clause-found : goal.returns-in-Found-clause-found
returns-in-Found-clause-found g c =
    let h = c.in_ok-explored.ensures in
    subst (λ r. IfOk c.show.result (IsExploring (language r)))
    (at_kept c.args.arena.now c.answer_within.new.arena c.args.root h.extends c.requires.known) c.show.ensures.found

pub returns-in-Found-clause-puts : goal.returns-in-Found-clause-puts
returns-in-Found-clause-puts g c =
    let h = c.in_ok-explored.ensures in
    on_ok_more c.show.result _ _
    (traces_grown c.args.arena.now c.answer_within.new.arena c.show.new.arena c.args.graph.now.memo
    c.answer_within.new.self.memo c.show.new.graph.memo c.args.self.now c.show.new.self c.args.budget.now
    c.show.new.budget (g.L.Tape.told c.args.tape.now) (g.L.Tape.told c.show.new.tape) h.extends h.derivatives_stay)
    c.show.ensures.puts

pub explore_front-requires-clause-known : goal.explore_front-requires-clause-known
explore_front-requires-clause-known g c =
    number_kept c.args.arena.now c.answer_within.new.arena c.args.root c.in_ok-explored.ensures.extends
    c.requires.known

pub returns-in-Limit-clause-found : goal.returns-in-Limit-clause-found
returns-in-Limit-clause-found g c =
    let h = c.in_ok-explored.ensures in
    subst (λ r. IfOk c.explore_front.result (IsExploring (language r)))
    (at_kept c.args.arena.now c.answer_within.new.arena c.args.root h.extends c.requires.known)
    c.explore_front.ensures.found

pub returns-in-Limit-clause-puts : goal.returns-in-Limit-clause-puts
returns-in-Limit-clause-puts g c =
    let h = c.in_ok-explored.ensures in
    on_ok_more c.explore_front.result _ _
    (traces_grown c.args.arena.now c.answer_within.new.arena c.explore_front.new.arena c.args.graph.now.memo
    c.answer_within.new.self.memo c.explore_front.new.graph.memo c.args.self.now c.explore_front.new.self
    c.args.budget.now c.explore_front.new.budget (g.L.Tape.told c.args.tape.now)
    (g.L.Tape.told c.explore_front.new.tape) h.extends h.derivatives_stay)
    c.explore_front.ensures.puts

pub returns-in_err-explored : goal.returns-in_err-explored
returns-in_err-explored g c =
    let x = c.from_residual in
    let p = err_from_is_err_and x.result x.ensures.1 in
    let h = c.in_err-explored.ensures in
    record {
      found = IfOk-from_err x.result _ x.ensures.0;
      puts = IfOk-from_err x.result _ x.ensures.0;
      alive = IfOk-from_err x.result _ x.ensures.0;
      dead = IfOk-from_err x.result _ x.ensures.0;
      spent = IfOk-from_err x.result _ x.ensures.0;
      only = IfOk-from_err x.result _ x.ensures.0;
      stays = stays_same c.args.self.now;
      expanded_stay = λ n was. was;
      extends = h.extends;
      graph = h.graph;
      marks_stay = h.marks_stay;
      derivatives_stay = h.derivatives_stay;
      steps = spent_none c.args.budget.now;
      counts = counts_none x.result p.0 _ p.1 p.2;
    }

pub returns-in-Found-clause-alive : goal.returns-in-Found-clause-alive
returns-in-Found-clause-alive g c = c.show.ensures.alive

pub returns-in-Found-clause-dead : goal.returns-in-Found-clause-dead
returns-in-Found-clause-dead g c = c.show.ensures.dead

pub returns-in-Found-clause-spent : goal.returns-in-Found-clause-spent
returns-in-Found-clause-spent g c = c.show.ensures.spent

pub returns-in-Found-clause-only : goal.returns-in-Found-clause-only
returns-in-Found-clause-only g c =
    subst (λ r. OnOk c.show.result (ExpandsReached c.show.new.arena r c.args.self.now c.show.new.self))
    (at_kept c.args.arena.now c.answer_within.new.arena c.args.root c.in_ok-explored.ensures.extends c.requires.known)
    c.show.ensures.only

pub returns-in-Found-clause-stays : goal.returns-in-Found-clause-stays
returns-in-Found-clause-stays g c = c.show.ensures.stays

pub returns-in-Found-clause-graph : goal.returns-in-Found-clause-graph
returns-in-Found-clause-graph g c = c.show.ensures.graph

pub returns-in-Found-clause-steps : goal.returns-in-Found-clause-steps
returns-in-Found-clause-steps g c = c.show.ensures.steps

pub returns-in-Found-clause-counts : goal.returns-in-Found-clause-counts
returns-in-Found-clause-counts g c = c.show.ensures.counts

pub returns-in-Found-clause-extends : goal.returns-in-Found-clause-extends
returns-in-Found-clause-extends g c =
    extends_more c.args.arena.now c.answer_within.new.arena c.show.new.arena c.in_ok-explored.ensures.extends
    c.show.ensures.extends

pub returns-in-Found-clause-derivatives_stay : goal.returns-in-Found-clause-derivatives_stay
returns-in-Found-clause-derivatives_stay g c = λ n pieces h.
    c.show.ensures.derivatives_stay n pieces (c.in_ok-explored.ensures.derivatives_stay n pieces h)

pub returns-in-Found-clause-marks_stay : goal.returns-in-Found-clause-marks_stay
returns-in-Found-clause-marks_stay g c = λ n h.
    ap (λ marks. is_marked marks n) c.show.ensures.marks ∙ c.in_ok-explored.ensures.marks_stay n h

pub returns-in-Limit-clause-alive : goal.returns-in-Limit-clause-alive
returns-in-Limit-clause-alive g c = c.explore_front.ensures.alive

pub returns-in-Limit-clause-dead : goal.returns-in-Limit-clause-dead
returns-in-Limit-clause-dead g c = c.explore_front.ensures.dead

pub returns-in-Limit-clause-spent : goal.returns-in-Limit-clause-spent
returns-in-Limit-clause-spent g c = c.explore_front.ensures.spent

pub returns-in-Limit-clause-only : goal.returns-in-Limit-clause-only
returns-in-Limit-clause-only g c =
    subst (λ r. OnOk c.explore_front.result
    (ExpandsReached c.explore_front.new.arena r c.args.self.now c.explore_front.new.self))
    (at_kept c.args.arena.now c.answer_within.new.arena c.args.root c.in_ok-explored.ensures.extends c.requires.known)
    c.explore_front.ensures.only

pub returns-in-Limit-clause-stays : goal.returns-in-Limit-clause-stays
returns-in-Limit-clause-stays g c = c.explore_front.ensures.stays

pub returns-in-Limit-clause-graph : goal.returns-in-Limit-clause-graph
returns-in-Limit-clause-graph g c = c.explore_front.ensures.graph

pub returns-in-Limit-clause-steps : goal.returns-in-Limit-clause-steps
returns-in-Limit-clause-steps g c = c.explore_front.ensures.steps

pub returns-in-Limit-clause-counts : goal.returns-in-Limit-clause-counts
returns-in-Limit-clause-counts g c = c.explore_front.ensures.counts

pub returns-in-Limit-clause-extends : goal.returns-in-Limit-clause-extends
returns-in-Limit-clause-extends g c =
    extends_more c.args.arena.now c.answer_within.new.arena c.explore_front.new.arena c.in_ok-explored.ensures.extends
    c.explore_front.ensures.extends

pub returns-in-Limit-clause-derivatives_stay : goal.returns-in-Limit-clause-derivatives_stay
returns-in-Limit-clause-derivatives_stay g c = λ n pieces h.
    c.explore_front.ensures.derivatives_stay n pieces (c.in_ok-explored.ensures.derivatives_stay n pieces h)

pub returns-in-Limit-clause-marks_stay : goal.returns-in-Limit-clause-marks_stay
returns-in-Limit-clause-marks_stay g c = λ n h.
    c.explore_front.ensures.marks_stay n (c.in_ok-explored.ensures.marks_stay n h)

pub explore_front-requires-clause-graph : goal.explore_front-requires-clause-graph
explore_front-requires-clause-graph g c = c.in_ok-explored.ensures.graph

pub show-requires-clause-graph : goal.show-requires-clause-graph
show-requires-clause-graph g c = c.in_ok-explored.ensures.graph

pub returns-in-Found-clause-expanded_stay : goal.returns-in-Found-clause-expanded_stay
returns-in-Found-clause-expanded_stay g c = c.show.ensures.expanded_stay

pub returns-in-Limit-clause-expanded_stay : goal.returns-in-Limit-clause-expanded_stay
returns-in-Limit-clause-expanded_stay g c = c.explore_front.ensures.expanded_stay
