use Rattle.std.proofs.Common.{inl, refl, sym, ◌∙◌, subst, Bool, List, ap, ℕ}
use Rattle.std.proofs.lemmas.Result.{IfOk-from_err, err_from_is_err_and}
use Rattle.std.proofs.lemmas.Bool.{true≢false, false≢true}
use Rattle.sb_trace.proofs.Growing.{traces_both, traces_uncounted, traces_none, stays_same}
use Rattle.sb_trace.proofs.Closures.{closed_in, closed_numbered, members_expanded, numbers_alone, unburied_alone, first_dead}
use Rattle.sb_trace.proofs.Spent.{spent_none}
use Rattle.sb_trace.proofs.Reached.{reached_alone, reached_behind, reached_or_before}
use Rattle.sb_regex.specs.Numbered.{regex_at}
use Rattle.sb_regex.proofs.CallerLemmas.{extends_same}
use Rattle.sb_trace.specs.Putting.{CountsTapeFault}
use Rattle.sb_trace.specs.Tracking.{number_in}
use Rattle.sb_graph.specs.Findings.{is_marked}
use Rattle.sb_trace.proofs.Exits.{counts_none, counts_on}
use Rattle.sb_trace.proofs.trace.Trace.bury.Goals as goal

pub close-requires : goal.close-requires
close-requires g c =
    record {
      graph = c.requires.graph;
      known = numbers_alone c.args.arena.now c.args.root c.in_ok-members.members.keys c.in_ok-members.ensures
          c.requires.known;
    }

pub put_dead-requires : goal.put_dead-requires
put_dead-requires g c =
    let h = c.in_ok-close.ensures in
    let members = c.close.new.members.keys in
    let memo = c.close.new.graph.memo in
    let t = c.close.new.self in
    closed_numbered memo t members
    (closed_in memo t members (h.closed c.if-not-branch.false)
    (members_expanded c.args.self.now t members (h.expanded c.if-not-branch.false)))

pub returns : goal.returns
returns g c =
    let h = c.in_ok-close.ensures in
    let p_order = c.put_dead.ensures.order in
    record {
      puts = let h = c.in_ok-close.ensures in
          let p = c.in_ok-put_dead.ensures in
          let rs = c.close.new.arena in
          let memo = c.close.new.graph.memo in
          let marks = c.close.new.graph.dead in
          let members = c.close.new.members.keys in
          let t = c.close.new.self in
          let u = c.put_dead.new.self in
          let left = c.close.new.budget in
          let closed = closed_in memo t members (h.closed c.if-not-branch.false)
          (members_expanded c.args.self.now t members (h.expanded c.if-not-branch.false)) in
          let unburied = h.unburied refl
          (unburied_alone c.args.graph.now.dead c.args.self.now c.args.root c.in_ok-members.members.keys
          c.in_ok-members.ensures c.requires.dead (sym c.is_dead.ensures ∙ c.if-is_dead.false)) in
          λ asked before tracks counts.
          traces_both asked before rs rs memo memo t u left left (g.L.Tape.told c.args.tape.now)
          (g.L.Tape.told c.close.new.tape) (g.L.Tape.told c.put_dead.new.tape) (h.puts asked before tracks counts)
          (λ after now n.
          traces_uncounted asked after rs memo u left (g.L.Tape.told c.close.new.tape) (g.L.Tape.told
          c.put_dead.new.tape) n
          (p.puts asked rs memo marks after h.goes.graph.barren unburied closed now));
      dead = λ done.
          first_dead c.put_dead.new.self c.args.root c.in_ok-members.members.keys c.close.new.members.keys
          c.in_ok-members.ensures c.in_ok-close.ensures.grew c.in_ok-put_dead.ensures.dead;
      spent = λ stopped. absurd (true≢false stopped);
      only = let r = regex_at c.args.arena.now c.args.root in
          reached_behind c.close.new.arena r c.args.self.now c.close.new.self c.put_dead.new.self p_order
          c.put_dead.ensures.expanded
          (reached_or_before c.close.new.arena r c.close.new.members.keys c.args.self.now c.close.new.self
          (h.reached r (reached_alone c.args.arena.now c.args.root c.in_ok-members.members.keys c.in_ok-members.ensures
          c.requires.known)) h.only);
      stays = (h.goes.stays.0, p_order ∙ h.goes.stays.1);
      expanded_stay = λ n was.
          let e = h.goes.expanded n was in (
            e.0,
            ap (λ (ns : List ℕ). number_in ns n) p_order ∙ e.1,
            ap (λ (ms : List Bool). is_marked ms e.0) c.put_dead.ensures.expanded ∙ e.2,
          );
      extends = h.goes.extends;
      graph = h.goes.graph;
      marks = h.goes.marks;
      derivatives_stay = h.goes.derivatives;
      steps = h.steps;
      counts = c.in_ok-put_dead.ensures.counts ∙ h.counts;
    }

pub returns-then-is_dead : goal.returns-then-is_dead
returns-then-is_dead g c =
    record {
      puts = λ asked before tracks counts.
          traces_none asked before c.args.arena.now c.args.graph.now.memo c.args.self.now c.args.budget.now
          (g.L.Tape.told c.args.tape.now) tracks counts;
      dead = λ done. sym c.is_dead.ensures ∙ c.if-is_dead.true;
      spent = λ stopped. absurd (true≢false stopped);
      only = λ n h. inl h;
      stays = stays_same c.args.self.now;
      expanded_stay = λ n was. was;
      extends = extends_same c.args.arena.now;
      graph = c.requires.graph;
      marks = refl;
      derivatives_stay = λ n pieces h. h;
      steps = spent_none c.args.budget.now;
      counts = refl;
    }

pub returns-in_err-members : goal.returns-in_err-members
returns-in_err-members g c =
    let x = c.from_residual in
    let p = err_from_is_err_and x.result x.ensures.1 in
    record {
      puts = IfOk-from_err x.result _ x.ensures.0;
      dead = IfOk-from_err x.result _ x.ensures.0;
      spent = IfOk-from_err x.result _ x.ensures.0;
      only = IfOk-from_err x.result _ x.ensures.0;
      stays = stays_same c.args.self.now;
      expanded_stay = λ n was. was;
      extends = extends_same c.args.arena.now;
      graph = c.requires.graph;
      marks = refl;
      derivatives_stay = λ n pieces h. h;
      steps = spent_none c.args.budget.now;
      counts = counts_none x.result p.0 _ p.1 p.2;
    }

pub returns-in_err-close : goal.returns-in_err-close
returns-in_err-close g c =
    let x = c.from_residual-in_err-close in
    let p = err_from_is_err_and x.result x.ensures.1 in
    let h = c.close.ensures in
    record {
      puts = IfOk-from_err x.result _ x.ensures.0;
      dead = IfOk-from_err x.result _ x.ensures.0;
      spent = IfOk-from_err x.result _ x.ensures.0;
      only = IfOk-from_err x.result _ x.ensures.0;
      stays = h.goes.stays;
      expanded_stay = h.goes.expanded;
      extends = h.goes.extends;
      graph = h.goes.graph;
      marks = h.goes.marks;
      derivatives_stay = h.goes.derivatives;
      steps = h.steps;
      counts = counts_on Bool x.result p.0 _ _ _ p.1 p.2 c.in_err-close.ensures.counts;
    }

pub returns-then-not-branch : goal.returns-then-not-branch
returns-then-not-branch g c =
    let h = c.in_ok-close.ensures in
    record {
      puts = h.puts;
      dead = λ done. absurd (false≢true done);
      spent = λ stopped. h.spent c.if-not-branch.true;
      only = let r = regex_at c.args.arena.now c.args.root in
          reached_or_before c.close.new.arena r c.close.new.members.keys c.args.self.now c.close.new.self
          (h.reached r (reached_alone c.args.arena.now c.args.root c.in_ok-members.members.keys c.in_ok-members.ensures
          c.requires.known)) h.only;
      stays = h.goes.stays;
      expanded_stay = h.goes.expanded;
      extends = h.goes.extends;
      graph = h.goes.graph;
      marks = h.goes.marks;
      derivatives_stay = h.goes.derivatives;
      steps = h.steps;
      counts = h.counts;
    }

pub returns-in_err-put_dead : goal.returns-in_err-put_dead
returns-in_err-put_dead g c =
    let x = c.from_residual-in_err-put_dead in
    let p = err_from_is_err_and x.result x.ensures.1 in
    let h = c.in_ok-close.ensures in
    let p_order = c.put_dead.ensures.order in
    record {
      puts = IfOk-from_err x.result _ x.ensures.0;
      dead = IfOk-from_err x.result _ x.ensures.0;
      spent = IfOk-from_err x.result _ x.ensures.0;
      only = IfOk-from_err x.result _ x.ensures.0;
      stays = (h.goes.stays.0, p_order ∙ h.goes.stays.1);
      expanded_stay = λ n was.
          let e = h.goes.expanded n was in (
            e.0,
            ap (λ (ns : List ℕ). number_in ns n) p_order ∙ e.1,
            ap (λ (ms : List Bool). is_marked ms e.0) c.put_dead.ensures.expanded ∙ e.2,
          );
      extends = h.goes.extends;
      graph = h.goes.graph;
      marks = h.goes.marks;
      derivatives_stay = h.goes.derivatives;
      steps = h.steps;
      counts = subst (λ old. CountsTapeFault x.result old (g.L.Tape.faults c.put_dead.new.tape)) h.counts
          (counts_on (Unit {0}) x.result p.0 _ _ _ p.1 p.2 c.in_err-put_dead.ensures.counts);
    }
