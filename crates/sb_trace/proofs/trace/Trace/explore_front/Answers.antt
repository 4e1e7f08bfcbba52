use Rattle.std.proofs.Common.{◌-◌, ◌||◌, ℕ, nat_eq, List, IfOk, sym, subst, ap₂, ◌∙◌, ap, Bool}
use Rattle.std.proofs.lemmas.Result.{IfOk-from_err, err_from_is_err_and}
use Rattle.std.specs.List.{count_by, IsDistinct}
use Rattle.std.specs.Result.{OnOk}
use Rattle.sb_lang.specs.Language.{language}
use Rattle.sb_regex.specs.Numbered.{AllNumbers, regex_at}
use Rattle.sb_regex.proofs.CallerLemmas.{at_kept, extends_more, number_kept, extends_same}
use Rattle.sb_graph.specs.Witness.{IsFinding}
use Rattle.sb_trace.specs.Tracking.{IsExploring, is_expanded_in}
use Rattle.sb_trace.specs.Reaching.{is_member, is_unexpanded, ExpandsReached}
use Rattle.sb_trace.specs.Closing.{HasSpent}
use Rattle.sb_trace.proofs.Growing.{traces_grown, stays_same}
use Rattle.sb_trace.proofs.Exits.{on_ok_more, counts_none, counts_on}
use Rattle.sb_trace.proofs.Closures.{numbers_alone}
use Rattle.sb_trace.proofs.Counts.{spent_out}
use Rattle.sb_trace.proofs.Reached.{reached_alone, reached_grows, reached_or_before}
use Rattle.sb_trace.proofs.Spent.{spent_none}
use Rattle.sb_graph.specs.Findings.{is_marked}
use Rattle.sb_trace.proofs.trace.Trace.explore_front.Goals as goal

pub gather-requires-clause-known : goal.gather-requires-clause-known
gather-requires-clause-known g c =
    numbers_alone c.args.arena.now c.args.root c.in_ok-members.members.keys c.in_ok-members.ensures c.requires.known

pub answer-requires-clause-known : goal.answer-requires-clause-known
answer-requires-clause-known g c =
    number_kept c.args.arena.now c.gather.new.arena c.args.root c.in_ok-gather.ensures.goes.extends c.requires.known

pub show-requires-clause-known : goal.show-requires-clause-known
show-requires-clause-known g c =
    let first = c.in_ok-gather.ensures.goes.extends in
    let next = c.in_ok-explored.ensures.extends in
    number_kept c.args.arena.now c.answer.new.arena c.args.root
    (extends_more c.args.arena.now c.gather.new.arena c.answer.new.arena first next) c.requires.known

pub show-requires-clause-found : goal.show-requires-clause-found
show-requires-clause-found g c =
    let first = c.in_ok-gather.ensures.goes.extends in
    let h = c.in_ok-explored.ensures in
    let known = number_kept c.args.arena.now c.gather.new.arena c.args.root first c.requires.known in
    subst (λ r. IsFinding (language r) c.in_ok-explored.explored)
    (sym (at_kept c.gather.new.arena c.answer.new.arena c.args.root h.extends known)) h.found

pub returns-then-branch-clause-found : goal.returns-then-branch-clause-found
returns-then-branch-clause-found g c =
    let first = c.in_ok-gather.ensures.goes.extends in
    let next = c.in_ok-explored.ensures.extends in
    subst (λ r. IfOk c.show.result (IsExploring (language r)))
    (at_kept c.args.arena.now c.answer.new.arena c.args.root
    (extends_more c.args.arena.now c.gather.new.arena c.answer.new.arena first next) c.requires.known)
    c.show.ensures.found

pub returns-then-branch-clause-puts : goal.returns-then-branch-clause-puts
returns-then-branch-clause-puts g c =
    let first = c.in_ok-gather.ensures.goes in
    let next = c.in_ok-explored.ensures in
    on_ok_more c.show.result _ _
    (traces_grown c.args.arena.now c.answer.new.arena c.show.new.arena c.args.graph.now.memo c.answer.new.self.memo
    c.show.new.graph.memo c.args.self.now c.show.new.self c.args.budget.now c.show.new.budget
    (g.L.Tape.told c.args.tape.now) (g.L.Tape.told c.show.new.tape)
    (extends_more c.args.arena.now c.gather.new.arena c.answer.new.arena first.extends next.extends)
    (λ n pieces h. next.derivatives_stay n pieces (first.derivatives n pieces h)))
    c.show.ensures.puts

pub expand_each-requires-clause-known : goal.expand_each-requires-clause-known
expand_each-requires-clause-known g c =
    subst (λ (ms : List ℕ). AllNumbers c.gather.new.arena ms) (sym c.as_slice.ensures.keys) c.in_ok-gather.ensures.known

pub expand_each-requires-clause-once : goal.expand_each-requires-clause-once
expand_each-requires-clause-once g c =
    subst (λ (ms : List ℕ). IsDistinct nat_eq ms) (sym c.as_slice.ensures.keys) c.as_slice.ensures.unique

pub returns-clause-puts : goal.returns-clause-puts
returns-clause-puts g c =
    let h = c.in_ok-gather.ensures.goes in
    traces_grown c.args.arena.now c.gather.new.arena c.expand_each.new.arena c.args.graph.now.memo
    c.gather.new.graph.memo c.expand_each.new.graph.memo c.args.self.now c.expand_each.new.self c.args.budget.now
    c.expand_each.new.budget (g.L.Tape.told c.args.tape.now) (g.L.Tape.told c.expand_each.new.tape) h.extends
    h.derivatives c.in_ok-_done.ensures.puts

pub returns-clause-spent : goal.returns-clause-spent
returns-clause-spent g c = λ same.
    let h = c.in_ok-_done.ensures in
    let count = count_by (is_unexpanded c.args.self.now) c.gather.new.members.keys in
    spent_out c.in_ok-_done._done c.args.budget.now c.expand_each.new.budget c.saturating_sub-left.result count h.spent
    (λ done. subst (λ (ms : List ℕ). HasSpent c.args.budget.now c.expand_each.new.budget
    (count_by (is_unexpanded c.args.self.now) ms)) c.as_slice.ensures.keys (h.spends done))
    (c.saturating_sub-left.ensures ∙ ap₂ (λ x y. x - y) c.limit.ensures c.spent.ensures)
    (c.in_ok-gather.ensures.many c.if-branch.false)

pub returns-then-branch-clause-derivatives_stay : goal.returns-then-branch-clause-derivatives_stay
returns-then-branch-clause-derivatives_stay g c = λ n pieces h.
    c.show.ensures.derivatives_stay n pieces
    (c.in_ok-explored.ensures.derivatives_stay n pieces (c.in_ok-gather.ensures.goes.derivatives n pieces h))

pub returns-in_err-members : goal.returns-in_err-members
returns-in_err-members g c =
    let x = c.from_residual in
    let p = err_from_is_err_and x.result x.ensures.1 in
    record {
      found = IfOk-from_err x.result _ x.ensures.0;
      puts = IfOk-from_err x.result _ x.ensures.0;
      alive = IfOk-from_err x.result _ x.ensures.0;
      dead = IfOk-from_err x.result _ x.ensures.0;
      spent = IfOk-from_err x.result _ x.ensures.0;
      only = IfOk-from_err x.result _ x.ensures.0;
      stays = stays_same c.args.self.now;
      expanded_stay = λ n was. was;
      extends = extends_same c.args.arena.now;
      graph = c.requires.graph;
      marks_stay = λ n h. h;
      derivatives_stay = λ n pieces h. h;
      steps = spent_none c.args.budget.now;
      counts = counts_none x.result p.0 _ p.1 p.2;
    }

pub returns-in_err-gather : goal.returns-in_err-gather
returns-in_err-gather g c =
    let x = c.from_residual-in_err-gather in
    let p = err_from_is_err_and x.result x.ensures.1 in
    let first = c.in_err-gather.ensures.goes in
    record {
      found = IfOk-from_err x.result _ x.ensures.0;
      puts = IfOk-from_err x.result _ x.ensures.0;
      alive = IfOk-from_err x.result _ x.ensures.0;
      dead = IfOk-from_err x.result _ x.ensures.0;
      spent = IfOk-from_err x.result _ x.ensures.0;
      only = IfOk-from_err x.result _ x.ensures.0;
      stays = stays_same c.args.self.now;
      expanded_stay = λ n was. was;
      extends = first.extends;
      graph = first.graph;
      marks_stay = λ n h. ap (λ marks. is_marked marks n) first.marks ∙ h;
      derivatives_stay = first.derivatives;
      steps = spent_none c.args.budget.now;
      counts = counts_none x.result p.0 _ p.1 p.2;
    }

pub returns-in_err-explored : goal.returns-in_err-explored
returns-in_err-explored g c =
    let x = c.from_residual-in_err-explored in
    let p = err_from_is_err_and x.result x.ensures.1 in
    let first = c.in_ok-gather.ensures.goes in
    let next = c.in_err-explored.ensures in
    record {
      found = IfOk-from_err x.result _ x.ensures.0;
      puts = IfOk-from_err x.result _ x.ensures.0;
      alive = IfOk-from_err x.result _ x.ensures.0;
      dead = IfOk-from_err x.result _ x.ensures.0;
      spent = IfOk-from_err x.result _ x.ensures.0;
      only = IfOk-from_err x.result _ x.ensures.0;
      stays = stays_same c.args.self.now;
      expanded_stay = λ n was. was;
      extends = extends_more c.args.arena.now c.gather.new.arena c.answer.new.arena first.extends next.extends;
      graph = next.graph;
      marks_stay = λ n h. next.marks_stay n (ap (λ marks. is_marked marks n) first.marks ∙ h);
      derivatives_stay = λ n pieces h. next.derivatives_stay n pieces (first.derivatives n pieces h);
      steps = spent_none c.args.budget.now;
      counts = counts_none x.result p.0 _ p.1 p.2;
    }

pub returns-in_err-_done : goal.returns-in_err-_done
returns-in_err-_done g c =
    let x = c.from_residual-in_err-_done in
    let p = err_from_is_err_and x.result x.ensures.1 in
    let first = c.in_ok-gather.ensures.goes in
    let done = c.in_err-_done.ensures in
    record {
      found = IfOk-from_err x.result _ x.ensures.0;
      puts = IfOk-from_err x.result _ x.ensures.0;
      alive = IfOk-from_err x.result _ x.ensures.0;
      dead = IfOk-from_err x.result _ x.ensures.0;
      spent = IfOk-from_err x.result _ x.ensures.0;
      only = IfOk-from_err x.result _ x.ensures.0;
      stays = done.goes.stays;
      expanded_stay = done.goes.expanded;
      extends = extends_more c.args.arena.now c.gather.new.arena c.expand_each.new.arena first.extends
          done.goes.extends;
      graph = done.goes.graph;
      marks_stay = λ n h.
          ap (λ marks. is_marked marks n) done.goes.marks ∙ ap (λ marks. is_marked marks n) first.marks ∙ h;
      derivatives_stay = λ n pieces h. done.goes.derivatives n pieces (first.derivatives n pieces h);
      steps = done.steps;
      counts = counts_on Bool x.result p.0 _ _ _ p.1 p.2 done.counts;
    }

pub returns-then-branch-clause-alive : goal.returns-then-branch-clause-alive
returns-then-branch-clause-alive g c = c.show.ensures.alive

pub returns-then-branch-clause-dead : goal.returns-then-branch-clause-dead
returns-then-branch-clause-dead g c = c.show.ensures.dead

pub returns-then-branch-clause-spent : goal.returns-then-branch-clause-spent
returns-then-branch-clause-spent g c = c.show.ensures.spent

pub returns-then-branch-clause-only : goal.returns-then-branch-clause-only
returns-then-branch-clause-only g c =
    let first = c.in_ok-gather.ensures.goes.extends in
    let next = c.in_ok-explored.ensures.extends in
    subst (λ r. OnOk c.show.result (ExpandsReached c.show.new.arena r c.args.self.now c.show.new.self))
    (at_kept c.args.arena.now c.answer.new.arena c.args.root
    (extends_more c.args.arena.now c.gather.new.arena c.answer.new.arena first next) c.requires.known)
    c.show.ensures.only

pub returns-then-branch-clause-stays : goal.returns-then-branch-clause-stays
returns-then-branch-clause-stays g c = c.show.ensures.stays

pub returns-then-branch-clause-graph : goal.returns-then-branch-clause-graph
returns-then-branch-clause-graph g c = c.show.ensures.graph

pub returns-then-branch-clause-steps : goal.returns-then-branch-clause-steps
returns-then-branch-clause-steps g c = c.show.ensures.steps

pub returns-then-branch-clause-counts : goal.returns-then-branch-clause-counts
returns-then-branch-clause-counts g c = c.show.ensures.counts

pub returns-then-branch-clause-extends : goal.returns-then-branch-clause-extends
returns-then-branch-clause-extends g c =
    let first = c.in_ok-gather.ensures.goes.extends in
    let next = c.in_ok-explored.ensures.extends in
    extends_more c.args.arena.now c.answer.new.arena c.show.new.arena
    (extends_more c.args.arena.now c.gather.new.arena c.answer.new.arena first next) c.show.ensures.extends

pub returns-then-branch-clause-marks_stay : goal.returns-then-branch-clause-marks_stay
returns-then-branch-clause-marks_stay g c = λ n h.
    ap (λ marks. is_marked marks n) c.show.ensures.marks
    ∙ c.in_ok-explored.ensures.marks_stay n
    (ap (λ marks. is_marked marks n) c.in_ok-gather.ensures.goes.marks ∙ h)

pub show-requires-clause-graph : goal.show-requires-clause-graph
show-requires-clause-graph g c = c.in_ok-explored.ensures.graph

pub show-requires-clause-dead : goal.show-requires-clause-dead
show-requires-clause-dead g c = c.in_ok-explored.ensures.dead

pub expand_each-requires-clause-graph : goal.expand_each-requires-clause-graph
expand_each-requires-clause-graph g c = c.in_ok-gather.ensures.goes.graph

pub returns-clause-only : goal.returns-clause-only
returns-clause-only g c =
    let first = c.in_ok-gather.ensures in
    let done = c.in_ok-_done.ensures in
    let r = regex_at c.args.arena.now c.args.root in
    let reached = first.reached r
    (reached_alone c.args.arena.now c.args.root c.in_ok-members.members.keys c.in_ok-members.ensures
    c.requires.known) in
    reached_or_before c.expand_each.new.arena r c.gather.new.members.keys c.args.self.now c.expand_each.new.self
    (λ n is. reached_grows c.gather.new.arena c.expand_each.new.arena r n done.goes.extends (reached n is))
    (λ n h. ap (λ (ms : List ℕ). is_member ms n || is_expanded_in c.args.self.now n) (sym c.as_slice.ensures.keys)
    ∙ done.only n h)

pub returns-clause-stays : goal.returns-clause-stays
returns-clause-stays g c = c.in_ok-_done.ensures.goes.stays

pub returns-clause-extends : goal.returns-clause-extends
returns-clause-extends g c =
    extends_more c.args.arena.now c.gather.new.arena c.expand_each.new.arena c.in_ok-gather.ensures.goes.extends
    c.in_ok-_done.ensures.goes.extends

pub returns-clause-graph : goal.returns-clause-graph
returns-clause-graph g c = c.in_ok-_done.ensures.goes.graph

pub returns-clause-marks_stay : goal.returns-clause-marks_stay
returns-clause-marks_stay g c = λ n h.
    ap (λ marks. is_marked marks n) c.in_ok-_done.ensures.goes.marks
    ∙ ap (λ marks. is_marked marks n) c.in_ok-gather.ensures.goes.marks
    ∙ h

pub returns-clause-derivatives_stay : goal.returns-clause-derivatives_stay
returns-clause-derivatives_stay g c = λ n pieces h.
    c.in_ok-_done.ensures.goes.derivatives n pieces (c.in_ok-gather.ensures.goes.derivatives n pieces h)

pub returns-clause-steps : goal.returns-clause-steps
returns-clause-steps g c = c.in_ok-_done.ensures.steps

pub returns-clause-counts : goal.returns-clause-counts
returns-clause-counts g c = c.in_ok-_done.ensures.counts

pub returns-clause-dead : goal.returns-clause-dead
returns-clause-dead g c = λ dead. absurd (Prim.cc (dead))

pub returns-then-branch-clause-expanded_stay : goal.returns-then-branch-clause-expanded_stay
returns-then-branch-clause-expanded_stay g c = c.show.ensures.expanded_stay

pub returns-clause-expanded_stay : goal.returns-clause-expanded_stay
returns-clause-expanded_stay g c = c.in_ok-_done.ensures.goes.expanded
