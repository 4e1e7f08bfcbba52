use Rattle.std.proofs.Common.{◌||◌, ◌-◌, ℕ, nat_eq, List, sym, ap, ap₂, subst, ◌∙◌, refl, Bool}
use Rattle.std.specs.List.{count_by, IsDistinct}
use Rattle.std.proofs.lemmas.Result.{IfOk-from_err, err_from_is_err_and}
use Rattle.std.proofs.lemmas.Bool.{false≢true}
use Rattle.sb_regex.specs.Numbered.{AllNumbers}
use Rattle.sb_trace.specs.Tracking.{is_expanded_in}
use Rattle.sb_trace.specs.Reaching.{is_member, is_unexpanded}
use Rattle.sb_trace.specs.Closing.{HasSpent}
use Rattle.sb_trace.proofs.Growing.{traces_grown, goes_both}
use Rattle.sb_trace.proofs.Closures.{members_expanded}
use Rattle.sb_trace.proofs.Counts.{spent_out}
use Rattle.sb_trace.proofs.Exits.{counts_none, counts_on}
use Rattle.sb_trace.proofs.Pairs.{parts_known, pairs_lead_later, known_later, pairs_reached_later, first_among, expanded_part}
use Rattle.sb_trace.proofs.trace.Trace.expand_pairs.Goals as goal

pub expand_each-requires : goal.expand_each-requires
expand_each-requires g c =
    let h = c.in_ok-closed.ensures in
    record {
      graph = h.goes.graph;
      known = subst (λ (ms : List ℕ). AllNumbers c.gather_pairs.new.arena ms) (sym c.as_slice.ensures.keys)
          (parts_known c.gather_pairs.new.arena c.gather_pairs.new.pairs.keys c.gather_pairs.new.parts.keys h.known
          h.parts);
      once = subst (λ (ms : List ℕ). IsDistinct nat_eq ms) (sym c.as_slice.ensures.keys) c.as_slice.ensures.unique;
    }

pub returns-in_err-closed : goal.returns-in_err-closed
returns-in_err-closed g c =
    let x = c.from_residual in
    let p = err_from_is_err_and x.result x.ensures.1 in
    record {
      puts = IfOk-from_err x.result _ x.ensures.0;
      led = IfOk-from_err x.result _ x.ensures.0;
      expanded = IfOk-from_err x.result _ x.ensures.0;
      only = IfOk-from_err x.result _ x.ensures.0;
      spent = IfOk-from_err x.result _ x.ensures.0;
      limit = refl;
      known = IfOk-from_err x.result _ x.ensures.0;
      reached = IfOk-from_err x.result _ x.ensures.0;
      grew = IfOk-from_err x.result _ x.ensures.0;
      goes = c.in_err-closed.ensures.goes;
      counts = counts_none x.result p.0 _ p.1 p.2;
    }

pub returns-in_err-done : goal.returns-in_err-done
returns-in_err-done g c =
    let x = c.from_residual-in_err-done in
    let p = err_from_is_err_and x.result x.ensures.1 in
    let e = c.expand_each.ensures in
    record {
      puts = IfOk-from_err x.result _ x.ensures.0;
      led = IfOk-from_err x.result _ x.ensures.0;
      expanded = IfOk-from_err x.result _ x.ensures.0;
      only = IfOk-from_err x.result _ x.ensures.0;
      spent = IfOk-from_err x.result _ x.ensures.0;
      limit = e.limit;
      known = IfOk-from_err x.result _ x.ensures.0;
      reached = IfOk-from_err x.result _ x.ensures.0;
      grew = IfOk-from_err x.result _ x.ensures.0;
      goes = goes_both c.args.arena.now c.gather_pairs.new.arena c.expand_each.new.arena c.args.graph.now
          c.gather_pairs.new.graph c.expand_each.new.graph c.args.self.now c.args.self.now c.expand_each.new.self
          c.in_ok-closed.ensures.goes c.expand_each.ensures.goes;
      counts = counts_on Bool x.result p.0 _ _ _ p.1 p.2 c.in_err-done.ensures.counts;
    }

pub returns-then-not-closed : goal.returns-then-not-closed
returns-then-not-closed g c =
    let h = c.in_ok-closed.ensures in
    let e = c.in_ok-done.ensures in
    let rs = c.gather_pairs.new.arena in
    let more = c.expand_each.new.arena in
    let pairs = c.gather_pairs.new.pairs.keys in
    let parts = c.gather_pairs.new.parts.keys in
    let t = c.args.self.now in
    let u = c.expand_each.new.self in
    record {
      puts = traces_grown c.args.arena.now rs more c.args.graph.now.memo c.gather_pairs.new.graph.memo
          c.expand_each.new.graph.memo t u c.args.budget.now c.expand_each.new.budget (g.L.Tape.told c.args.tape.now)
          (g.L.Tape.told c.expand_each.new.tape) h.goes.extends h.goes.derivatives c.in_ok-done.ensures.puts;
      led = λ done. absurd (false≢true done);
      expanded = λ done. absurd (false≢true done);
      only = expanded_part pairs parts t u h.parts
          (λ n there. ap (λ (ms : List ℕ). is_member ms n || is_expanded_in t n) (sym c.as_slice.ensures.keys)
          ∙ c.in_ok-done.ensures.only n there);
      spent = λ stopped.
          let count = count_by (is_unexpanded t) parts in
          spent_out c.in_ok-done.done c.args.budget.now c.expand_each.new.budget c.saturating_sub-left.result count
          e.spent
          (λ done. subst (λ (ms : List ℕ). HasSpent c.args.budget.now c.expand_each.new.budget
          (count_by (is_unexpanded t) ms)) c.as_slice.ensures.keys (c.in_ok-done.ensures.spends done))
          (c.saturating_sub-left.ensures ∙ ap₂ (λ x y. x - y) c.limit.ensures c.spent.ensures)
          (h.many c.if-not-closed.true);
      limit = e.limit;
      known = known_later rs more pairs e.goes.extends h.known;
      reached = λ r s all. pairs_reached_later rs more r s pairs e.goes.extends (h.reached r s all);
      grew = h.grew;
      goes = goes_both c.args.arena.now rs more c.args.graph.now c.gather_pairs.new.graph c.expand_each.new.graph t t u
          h.goes e.goes;
      counts = e.counts;
    }

pub returns : goal.returns
returns g c =
    let h = c.in_ok-closed.ensures in
    let e = c.in_ok-done.ensures in
    let rs = c.gather_pairs.new.arena in
    let more = c.expand_each.new.arena in
    let pairs = c.gather_pairs.new.pairs.keys in
    let parts = c.gather_pairs.new.parts.keys in
    let t = c.args.self.now in
    let u = c.expand_each.new.self in
    record {
      puts = traces_grown c.args.arena.now rs more c.args.graph.now.memo c.gather_pairs.new.graph.memo
          c.expand_each.new.graph.memo t u c.args.budget.now c.expand_each.new.budget (g.L.Tape.told c.args.tape.now)
          (g.L.Tape.told c.expand_each.new.tape) h.goes.extends h.goes.derivatives c.in_ok-done.ensures.puts;
      led = λ done. pairs_lead_later rs more pairs e.goes.extends h.known (h.led c.if-not-closed.false);
      expanded = λ done p there.
          members_expanded t u c.as_slice.result.now (c.in_ok-done.ensures.expanded done) p.0
          (ap (λ (ms : List ℕ). is_member ms p.0) c.as_slice.ensures.keys
          ∙ first_among parts pairs p (h.gathered c.if-not-closed.false) there);
      only = expanded_part pairs parts t u h.parts
          (λ n there. ap (λ (ms : List ℕ). is_member ms n || is_expanded_in t n) (sym c.as_slice.ensures.keys)
          ∙ c.in_ok-done.ensures.only n there);
      spent = e.spent;
      limit = e.limit;
      known = known_later rs more pairs e.goes.extends h.known;
      reached = λ r s all. pairs_reached_later rs more r s pairs e.goes.extends (h.reached r s all);
      grew = h.grew;
      goes = goes_both c.args.arena.now rs more c.args.graph.now c.gather_pairs.new.graph c.expand_each.new.graph t t u
          h.goes e.goes;
      counts = e.counts;
    }
