use Rattle.std.proofs.Common.{◌≡◌, ◌||◌, ◌+◌, ◌-◌, ℕ, nat_eq, List, sym, ap, ap₂, subst, ◌∙◌, refl, Bool}
use Rattle.std.specs.List.{count_by, IsDistinct}
use Rattle.std.proofs.lemmas.Result.{IfOk-from_err, err_from_is_err_and}
use Rattle.std.proofs.lemmas.Bool.{false≢true}
use Rattle.sb_regex.specs.Numbered.{AllNumbers}
use Rattle.sb_trace.specs.Tracking.{is_expanded_in}
use Rattle.sb_trace.specs.Reaching.{is_member, is_unexpanded}
use Rattle.sb_trace.specs.Closing.{HasSpent}
use Rattle.sb_trace.proofs.Growing.{traces_grown, goes_both}
use Rattle.sb_trace.proofs.Closures.{led_later, unburied_stay}
use Rattle.sb_trace.proofs.Counts.{spent_out}
use Rattle.sb_trace.proofs.Reached.{reached_grows}
use Rattle.sb_trace.proofs.Spent.{spent_none}
use Rattle.sb_trace.proofs.Exits.{counts_none, counts_on}
use Rattle.sb_trace.proofs.trace.Trace.close.Goals as goal

pub expand_each-requires : goal.expand_each-requires
expand_each-requires g c =
    record {
      graph = c.in_ok-closed.ensures.goes.graph;
      known = subst (λ (ms : List ℕ). AllNumbers c.gather.new.arena ms) (sym c.as_slice.ensures.keys)
          c.in_ok-closed.ensures.known;
      once = subst (λ (ms : List ℕ). IsDistinct nat_eq ms) (sym c.as_slice.ensures.keys) c.as_slice.ensures.unique;
    }

pub returns-in_err-done : goal.returns-in_err-done
returns-in_err-done g c =
    let x = c.from_residual-in_err-done in
    let p = err_from_is_err_and x.result x.ensures.1 in
    let e = c.expand_each.ensures in
    record {
      puts = IfOk-from_err x.result _ x.ensures.0;
      closed = IfOk-from_err x.result _ x.ensures.0;
      expanded = IfOk-from_err x.result _ x.ensures.0;
      only = IfOk-from_err x.result _ x.ensures.0;
      spends = IfOk-from_err x.result _ x.ensures.0;
      spent = IfOk-from_err x.result _ x.ensures.0;
      limit = e.limit;
      reached = IfOk-from_err x.result _ x.ensures.0;
      unburied = IfOk-from_err x.result _ x.ensures.0;
      grew = IfOk-from_err x.result _ x.ensures.0;
      goes = goes_both c.args.arena.now c.gather.new.arena c.expand_each.new.arena c.args.graph.now c.gather.new.graph
          c.expand_each.new.graph c.args.self.now c.args.self.now c.expand_each.new.self c.in_ok-closed.ensures.goes
          c.expand_each.ensures.goes;
      steps = e.steps;
      counts = counts_on Bool x.result p.0 _ _ _ p.1 p.2 c.in_err-done.ensures.counts;
    }

pub returns-then-not-closed : goal.returns-then-not-closed
returns-then-not-closed g c =
    let e = c.in_ok-done.ensures in
    record {
      puts = let h = c.in_ok-closed.ensures.goes in
          traces_grown c.args.arena.now c.gather.new.arena c.expand_each.new.arena c.args.graph.now.memo
          c.gather.new.graph.memo c.expand_each.new.graph.memo c.args.self.now c.expand_each.new.self c.args.budget.now
          c.expand_each.new.budget (g.L.Tape.told c.args.tape.now) (g.L.Tape.told c.expand_each.new.tape) h.extends
          h.derivatives c.in_ok-done.ensures.puts;
      closed = λ done. absurd (false≢true done);
      expanded = λ done. absurd (false≢true done);
      only = λ n there.
          ap (λ (ms : List ℕ). is_member ms n || is_expanded_in c.args.self.now n) (sym c.as_slice.ensures.keys)
          ∙ c.in_ok-done.ensures.only n there;
      spends = λ done. absurd (false≢true done);
      spent = λ stopped.
          let h = c.in_ok-done.ensures in
          let count = count_by (is_unexpanded c.args.self.now) c.gather.new.members.keys in
          spent_out c.in_ok-done.done c.args.budget.now c.expand_each.new.budget c.saturating_sub-left.result count
          h.spent
          (λ done. subst (λ (ms : List ℕ). HasSpent c.args.budget.now c.expand_each.new.budget
          (count_by (is_unexpanded c.args.self.now) ms)) c.as_slice.ensures.keys (h.spends done))
          (c.saturating_sub-left.ensures ∙ ap₂ (λ x y. x - y) c.limit.ensures c.spent.ensures)
          (c.in_ok-closed.ensures.many c.if-not-closed.true);
      limit = e.limit;
      reached = λ r all n there.
          reached_grows c.gather.new.arena c.expand_each.new.arena r n c.in_ok-done.ensures.goes.extends
          (c.in_ok-closed.ensures.reached r all n there);
      unburied = λ skips all.
          let h = c.in_ok-done.ensures.goes in
          unburied_stay c.gather.new.graph.dead c.expand_each.new.graph.dead c.args.self.now c.expand_each.new.self
          c.gather.new.members.keys h.marks h.buried (c.in_ok-closed.ensures.unburied skips all);
      grew = c.in_ok-closed.ensures.grew;
      goes = goes_both c.args.arena.now c.gather.new.arena c.expand_each.new.arena c.args.graph.now c.gather.new.graph
          c.expand_each.new.graph c.args.self.now c.args.self.now c.expand_each.new.self c.in_ok-closed.ensures.goes
          c.expand_each.ensures.goes;
      steps = e.steps;
      counts = e.counts;
    }

pub returns : goal.returns
returns g c =
    let e = c.in_ok-done.ensures in
    record {
      puts = let h = c.in_ok-closed.ensures.goes in
          traces_grown c.args.arena.now c.gather.new.arena c.expand_each.new.arena c.args.graph.now.memo
          c.gather.new.graph.memo c.expand_each.new.graph.memo c.args.self.now c.expand_each.new.self c.args.budget.now
          c.expand_each.new.budget (g.L.Tape.told c.args.tape.now) (g.L.Tape.told c.expand_each.new.tape) h.extends
          h.derivatives c.in_ok-done.ensures.puts;
      closed = λ done.
          let h = c.in_ok-done.ensures.goes in
          led_later c.gather.new.graph.memo c.expand_each.new.graph.memo c.args.skips c.args.self.now
          c.expand_each.new.self
          c.gather.new.members.keys h.derivatives h.buried (c.in_ok-closed.ensures.closed c.if-not-closed.false);
      expanded = λ done n.
          c.in_ok-done.ensures.expanded done n
          ∙ ap (λ (ms : List ℕ). is_member ms n || is_expanded_in c.args.self.now n) c.as_slice.ensures.keys;
      only = λ n there.
          ap (λ (ms : List ℕ). is_member ms n || is_expanded_in c.args.self.now n) (sym c.as_slice.ensures.keys)
          ∙ c.in_ok-done.ensures.only n there;
      spends = λ done.
          subst (λ (ms : List ℕ). c.expand_each.new.budget.spent
          ≡ c.args.budget.now.spent + count_by (is_unexpanded c.args.self.now) ms) c.as_slice.ensures.keys
          (c.in_ok-done.ensures.spends done).spent;
      spent = e.spent;
      limit = e.limit;
      reached = λ r all n there.
          reached_grows c.gather.new.arena c.expand_each.new.arena r n c.in_ok-done.ensures.goes.extends
          (c.in_ok-closed.ensures.reached r all n there);
      unburied = λ skips all.
          let h = c.in_ok-done.ensures.goes in
          unburied_stay c.gather.new.graph.dead c.expand_each.new.graph.dead c.args.self.now c.expand_each.new.self
          c.gather.new.members.keys h.marks h.buried (c.in_ok-closed.ensures.unburied skips all);
      grew = c.in_ok-closed.ensures.grew;
      goes = goes_both c.args.arena.now c.gather.new.arena c.expand_each.new.arena c.args.graph.now c.gather.new.graph
          c.expand_each.new.graph c.args.self.now c.args.self.now c.expand_each.new.self c.in_ok-closed.ensures.goes
          c.expand_each.ensures.goes;
      steps = e.steps;
      counts = e.counts;
    }

pub returns-in_err-closed : goal.returns-in_err-closed
returns-in_err-closed g c =
    let x = c.from_residual in
    let p = err_from_is_err_and x.result x.ensures.1 in
    record {
      puts = IfOk-from_err x.result _ x.ensures.0;
      closed = IfOk-from_err x.result _ x.ensures.0;
      expanded = IfOk-from_err x.result _ x.ensures.0;
      only = IfOk-from_err x.result _ x.ensures.0;
      spends = IfOk-from_err x.result _ x.ensures.0;
      spent = IfOk-from_err x.result _ x.ensures.0;
      limit = refl;
      reached = IfOk-from_err x.result _ x.ensures.0;
      unburied = IfOk-from_err x.result _ x.ensures.0;
      grew = IfOk-from_err x.result _ x.ensures.0;
      goes = c.in_err-closed.ensures.goes;
      steps = spent_none c.args.budget.now;
      counts = counts_none x.result p.0 _ p.1 p.2;
    }
