use Rattle.std.proofs.Common.{◌≡◌, ◌||◌, ◌+◌, ℕ, List, slice_get, sym, ap, subst, ◌∙◌, refl, Bool}
use Rattle.std.specs.List.{count_by}
use Rattle.std.proofs.lemmas.Result.{IfOk-from_err, err_from_is_err_and}
use Rattle.sb_regex.specs.Numbered.{regex_at}
use Rattle.sb_trace.specs.Tracking.{is_expanded_in}
use Rattle.sb_trace.specs.Reaching.{is_member, is_unexpanded, IsClosed, AreReached}
use Rattle.sb_trace.proofs.Closures.{numbers_alone, first_member, led_closed}
use Rattle.sb_trace.proofs.Reached.{reached_alone, reached_or_before}
use Rattle.sb_regex.proofs.CallerLemmas.{extends_same}
use Rattle.sb_trace.specs.Putting.{CountsTapeFault}
use Rattle.sb_trace.proofs.Exits.{counts_none, counts_on}
use Rattle.sb_trace.proofs.Growing.{stays_same}
use Rattle.sb_trace.proofs.trace.Trace.closed_from.Goals as goal

pub close-requires : goal.close-requires
close-requires g c =
    record {
      graph = c.requires.graph;
      known = numbers_alone c.args.arena.now c.args.regex c.in_ok-members.members.keys c.in_ok-members.ensures
          c.requires.known;
    }

pub returns-then-not-branch : goal.returns-then-not-branch
returns-then-not-branch g c =
    let h = c.in_ok-close.ensures in
    record {
      puts = h.puts;
      first = tt;
      once = tt;
      closed = tt;
      reached = tt;
      expanded = tt;
      only = let h = c.in_ok-close.ensures in
          let r = regex_at c.args.arena.now c.args.regex in
          reached_or_before c.close.new.arena r c.close.new.members.keys c.args.self.now c.close.new.self
          (h.reached r (reached_alone c.args.arena.now c.args.regex c.in_ok-members.members.keys c.in_ok-members.ensures
          c.requires.known)) h.only;
      spends = tt;
      spent = λ spent. h.spent c.if-not-branch.true;
      limit = h.limit;
      stays = h.goes.stays;
      buried = h.goes.buried;
      extends = h.goes.extends;
      graph = h.goes.graph;
      marks = h.goes.marks;
      derivatives_stay = h.goes.derivatives;
      counts = h.counts;
    }

pub returns : goal.returns
returns g c =
    let h = c.in_ok-close.ensures in
    record {
      puts = h.puts;
      first = ap (λ (ms : List ℕ). slice_get ms 0) c.in_ok-regexes.ensures.items
          ∙ first_member c.args.regex c.in_ok-members.members.keys c.close.new.members.keys c.in_ok-members.ensures
          c.in_ok-close.ensures.grew;
      once = c.in_ok-regexes.ensures.once;
      closed = subst (λ (ms : List ℕ). IsClosed c.close.new.graph.memo ms) (sym c.in_ok-regexes.ensures.items)
          (led_closed c.close.new.graph.memo c.close.new.self c.close.new.members.keys
          (c.in_ok-close.ensures.closed c.if-not-branch.false));
      reached = let h = c.in_ok-close.ensures in
          let r = regex_at c.args.arena.now c.args.regex in
          subst (λ (ms : List ℕ). AreReached c.close.new.arena r ms) (sym c.in_ok-regexes.ensures.items)
          (h.reached r (reached_alone c.args.arena.now c.args.regex c.in_ok-members.members.keys c.in_ok-members.ensures
          c.requires.known));
      expanded = λ n.
          c.in_ok-close.ensures.expanded c.if-not-branch.false n
          ∙ ap (λ (ms : List ℕ). is_member ms n || is_expanded_in c.args.self.now n) (sym
          c.in_ok-regexes.ensures.items);
      only = let h = c.in_ok-close.ensures in
          let r = regex_at c.args.arena.now c.args.regex in
          reached_or_before c.close.new.arena r c.close.new.members.keys c.args.self.now c.close.new.self
          (h.reached r (reached_alone c.args.arena.now c.args.regex c.in_ok-members.members.keys c.in_ok-members.ensures
          c.requires.known)) h.only;
      spends = subst (λ (ms : List ℕ). c.close.new.budget.spent
          ≡ c.args.budget.now.spent + count_by (is_unexpanded c.args.self.now) ms) (sym c.in_ok-regexes.ensures.items)
          (c.in_ok-close.ensures.spends c.if-not-branch.false);
      spent = λ spent. absurd (Prim.cc (spent));
      limit = h.limit;
      stays = h.goes.stays;
      buried = h.goes.buried;
      extends = h.goes.extends;
      graph = h.goes.graph;
      marks = h.goes.marks;
      derivatives_stay = h.goes.derivatives;
      counts = h.counts;
    }

pub returns-in_err-members : goal.returns-in_err-members
returns-in_err-members g c =
    let x = c.from_residual in
    let p = err_from_is_err_and x.result x.ensures.1 in
    record {
      puts = IfOk-from_err x.result _ x.ensures.0;
      first = IfOk-from_err x.result _ x.ensures.0;
      once = IfOk-from_err x.result _ x.ensures.0;
      closed = IfOk-from_err x.result _ x.ensures.0;
      reached = IfOk-from_err x.result _ x.ensures.0;
      expanded = IfOk-from_err x.result _ x.ensures.0;
      only = IfOk-from_err x.result _ x.ensures.0;
      spends = IfOk-from_err x.result _ x.ensures.0;
      spent = IfOk-from_err x.result _ x.ensures.0;
      limit = refl;
      stays = stays_same c.args.self.now;
      buried = λ n. refl;
      extends = extends_same c.args.arena.now;
      graph = c.requires.graph;
      marks = refl;
      derivatives_stay = λ n pieces h. h;
      counts = counts_none x.result p.0 _ p.1 p.2;
    }

pub returns-in_err-close : goal.returns-in_err-close
returns-in_err-close g c =
    let x = c.from_residual-in_err-close in
    let p = err_from_is_err_and x.result x.ensures.1 in
    let h = c.close.ensures in
    record {
      puts = IfOk-from_err x.result _ x.ensures.0;
      first = IfOk-from_err x.result _ x.ensures.0;
      once = IfOk-from_err x.result _ x.ensures.0;
      closed = IfOk-from_err x.result _ x.ensures.0;
      reached = IfOk-from_err x.result _ x.ensures.0;
      expanded = IfOk-from_err x.result _ x.ensures.0;
      only = IfOk-from_err x.result _ x.ensures.0;
      spends = IfOk-from_err x.result _ x.ensures.0;
      spent = IfOk-from_err x.result _ x.ensures.0;
      limit = h.limit;
      stays = h.goes.stays;
      buried = h.goes.buried;
      extends = h.goes.extends;
      graph = h.goes.graph;
      marks = h.goes.marks;
      derivatives_stay = h.goes.derivatives;
      counts = counts_on Bool x.result p.0 _ _ _ p.1 p.2 c.in_err-close.ensures.counts;
    }

pub returns-in_err-regexes : goal.returns-in_err-regexes
returns-in_err-regexes g c =
    let x = c.from_residual-in_err-regexes in
    let p = err_from_is_err_and x.result x.ensures.1 in
    let h = c.in_ok-close.ensures in
    record {
      puts = IfOk-from_err x.result _ x.ensures.0;
      first = IfOk-from_err x.result _ x.ensures.0;
      once = IfOk-from_err x.result _ x.ensures.0;
      closed = IfOk-from_err x.result _ x.ensures.0;
      reached = IfOk-from_err x.result _ x.ensures.0;
      expanded = IfOk-from_err x.result _ x.ensures.0;
      only = IfOk-from_err x.result _ x.ensures.0;
      spends = IfOk-from_err x.result _ x.ensures.0;
      spent = IfOk-from_err x.result _ x.ensures.0;
      limit = h.limit;
      stays = h.goes.stays;
      buried = h.goes.buried;
      extends = h.goes.extends;
      graph = h.goes.graph;
      marks = h.goes.marks;
      derivatives_stay = h.goes.derivatives;
      counts = subst (λ old. CountsTapeFault x.result old (g.L.Tape.faults c.close.new.tape)) h.counts
          (counts_none x.result p.0 (g.L.Tape.faults c.close.new.tape) p.1 p.2);
    }
