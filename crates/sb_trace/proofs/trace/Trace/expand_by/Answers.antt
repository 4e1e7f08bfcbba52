use Rattle.std.proofs.Common.{◌≡◌, ◌≤◌, ℕ, Bool, true, false, ◌||◌, Some, length, get_or, refl, sym, ap, ◌∙◌, arith, subst}
use Rattle.std.proofs.lemmas.Result.{IfOk-from_err, err_from_is_err_and}
use Rattle.std.specs.declared.alloc.Global.{Global}
use Rattle.std.specs.declared.vec.Vec.{Vec}
use Rattle.sb_proof.specs.declared.line.Class.{Class}
use Rattle.sb_graph.specs.Findings.{is_marked}
use Rattle.sb_trace.specs.Tracking.{Traced, IsExpandedIn, number_in, is_put}
use Rattle.sb_trace.proofs.Positions.{number-below}
use Rattle.sb_trace.proofs.Numbering.{expanded_put}
use Rattle.sb_trace.proofs.Puts.{stays_both}
use Rattle.sb_trace.proofs.Growing.{number_kept, traces_uncounted, expanded_before, expanded_same}
use Rattle.sb_trace.proofs.Exits.{on_ok_more, if_ok_more, counts_on}
use Rattle.sb_trace.proofs.Views.{within_expanded, expanded_read}
use Rattle.sb_trace.proofs.Expanding.{puts_expansion, not_expanded, anew_is_not_already}
use Rattle.sb_trace.proofs.Spent.{spent_none}
use Rattle.sb_trace.specs.Putting.{CountsTapeFault}
use Rattle.sb_trace.proofs.trace.Trace.expand_by.Goals as goal

pub index-requires : goal.index-requires
index-requires g c =
    let s = c.self.inside in
    let u : Traced = record { order = s.order.keys; expanded = s.expanded.items; dead = s.dead.items } in
    let low = number-below c.number.new.self.order c.args.regex c.in_ok-number.number c.in_ok-number.ensures.first in
    let l = within_expanded c.number.new.self u c.self.view_is c.in_ok-number.number c.self.invariant.0 low in
    omega (arith, l, s.expanded.ok.0)

pub returns-in_err-number : goal.returns-in_err-number
returns-in_err-number g c =
    let x = c.from_residual in
    let p = err_from_is_err_and x.result x.ensures.1 in
    let h = c.number.ensures in
    record {
      puts = IfOk-from_err x.result _ x.ensures.0;
      expanded = IfOk-from_err x.result _ x.ensures.0;
      already = IfOk-from_err x.result _ x.ensures.0;
      spent = IfOk-from_err x.result _ x.ensures.0;
      spends = IfOk-from_err x.result _ x.ensures.0;
      limit = refl;
      only = IfOk-from_err x.result _ x.ensures.0;
      stays = h.stays;
      dead = h.dead_stay;
      marks = λ n h. c.number.ensures.expanded_stay n ∙ h;
      steps = spent_none c.args.budget.now;
      counts = counts_on ℕ x.result p.0 _ _ _ p.1 p.2 c.in_err-number.ensures.counts;
    }

pub returns-in_err-classes : goal.returns-in_err-classes
returns-in_err-classes g c =
    let x = c.from_residual-in_err-classes in
    let p = err_from_is_err_and x.result x.ensures.1 in
    let h = c.in_ok-number.ensures in
    let k = c.classes.ensures in
    record {
      puts = IfOk-from_err x.result _ x.ensures.0;
      expanded = IfOk-from_err x.result _ x.ensures.0;
      already = IfOk-from_err x.result _ x.ensures.0;
      spent = IfOk-from_err x.result _ x.ensures.0;
      spends = IfOk-from_err x.result _ x.ensures.0;
      limit = refl;
      only = IfOk-from_err x.result _ x.ensures.0;
      stays = stays_both c.args.self.now c.number.new.self c.classes.new.self h.stays k.stays;
      dead = λ n. k.dead_stay n ∙ h.dead_stay n;
      marks = λ n h. c.classes.ensures.expanded_stay n ∙ c.number.ensures.expanded_stay n ∙ h;
      steps = spent_none c.args.budget.now;
      counts = subst (λ old. CountsTapeFault x.result old (g.L.Tape.faults c.classes.new.tape)) h.counts
          (counts_on (Vec Class Global) x.result p.0 _ _ _ p.1 p.2 c.in_err-classes.ensures.counts);
    }

there : (t u : Traced) (regex number : ℕ) (b : Bool) → u ≡ t → length u.order ≤ length u.expanded
    → number_in t.order regex ≡ Some number → b ≡ get_or u.expanded number b → b ≡ true → IsExpandedIn t regex
there t u regex number b same long first is marked =
    let l = within_expanded t u same number long (number-below t.order regex number first) in
    (number, first, sym (expanded_read t u same number b l is) ∙ marked)

pub returns-then-index : goal.returns-then-index
returns-then-index g c =
    record {
      puts = λ asked memo before known entry tracks counts.
          traces_uncounted asked before c.args.arena.now memo c.number.new.self c.args.budget.now
          (g.L.Tape.told c.args.tape.now) (g.L.Tape.told c.number.new.tape) counts
          (c.in_ok-number.ensures.puts asked memo before tracks);
      expanded = let s = c.self.inside in
          let u : Traced = record { order = s.order.keys; expanded = s.expanded.items; dead = s.dead.items } in
          λ not_spent. there c.number.new.self u c.args.regex c.in_ok-number.number c.index.result.now c.self.view_is
          c.self.invariant.0 c.in_ok-number.ensures.first c.index.ensures c.if-index.true;
      already = let s = c.self.inside in
          let u : Traced = record { order = s.order.keys; expanded = s.expanded.items; dead = s.dead.items } in
          let h = c.in_ok-number.ensures in
          let now = there c.number.new.self u c.args.regex c.in_ok-number.number c.index.result.now c.self.view_is
          c.self.invariant.0 h.first c.index.ensures c.if-index.true in
          let before = expanded_before c.args.self.now c.number.new.self h.stays h.expanded_stay
          c.marks_have_numbers.ensures.expanded c.args.regex now in
          (λ same. before, λ e. refl);
      spent = λ spent. absurd (Prim.cc (spent));
      spends = refl;
      limit = refl;
      only = let h = c.in_ok-number.ensures in
          expanded_same c.args.self.now c.number.new.self h.stays h.expanded_stay c.marks_have_numbers.ensures.expanded;
      stays = c.in_ok-number.ensures.stays;
      dead = c.in_ok-number.ensures.dead_stay;
      marks = λ n h. c.in_ok-number.ensures.expanded_stay n ∙ h;
      steps = spent_none c.args.budget.now;
      counts = c.in_ok-number.ensures.counts;
    }

pub put_expansion-requires : goal.put_expansion-requires
put_expansion-requires g c =
    number-below c.classes.new.self.order c.args.regex c.in_ok-number.number
    (number_kept c.number.new.self c.classes.new.self c.args.regex c.in_ok-number.number c.in_ok-classes.ensures.stays
    c.in_ok-number.ensures.first)

-- the mark that was read
new : (t u : Traced) (regex number : ℕ) (b : Bool) → u ≡ t → length u.order ≤ length u.expanded
    → number_in t.order regex ≡ Some number → b ≡ get_or u.expanded number b → b ≡ false
    → is_marked t.expanded number ≡ false
new t u regex number b same long first is no_mark =
    let l = within_expanded t u same number long (number-below t.order regex number first) in
    sym (expanded_read t u same number b l is) ∙ no_mark

pub returns : goal.returns
returns g c =
    let stay = stays_both c.args.self.now c.number.new.self c.classes.new.self c.in_ok-number.ensures.stays
    c.in_ok-classes.ensures.stays in
    let e = c.put_expansion.ensures in
    record {
      puts = let s = c.self.inside in
          let u : Traced = record { order = s.order.keys; expanded = s.expanded.items; dead = s.dead.items } in
          let h = c.in_ok-number.ensures in
          let k = c.in_ok-classes.ensures in
          let here = new c.number.new.self u c.args.regex c.in_ok-number.number c.index.result.now c.self.view_is
          c.self.invariant.0 h.first c.index.ensures c.if-index.false in
          on_ok_more c.put_expansion.result _ _
          (λ put. puts_expansion c.args.arena.now c.args.self.now c.number.new.self c.classes.new.self
          c.put_expansion.new.self c.args.budget.now c.put_expansion.new.budget (g.L.Tape.told c.args.tape.now)
          (g.L.Tape.told c.number.new.tape) (g.L.Tape.told c.classes.new.tape) (g.L.Tape.told c.put_expansion.new.tape)
          c.args.regex c.in_ok-number.number c.args.derivative.now c.in_ok-classes.classes.items k.stays h.first
          (k.expanded_stay c.in_ok-number.number ∙ here) k.classes h.puts k.puts put)
          c.put_expansion.ensures.puts;
      expanded = let first = number_kept c.number.new.self c.classes.new.self c.args.regex c.in_ok-number.number
          c.in_ok-classes.ensures.stays c.in_ok-number.ensures.first in
          if_ok_more c.put_expansion.result _ _
          (λ e marked not_spent. (
            c.in_ok-number.number,
            ap (λ order. number_in order c.args.regex) c.put_expansion.ensures.order ∙ first,
            marked not_spent,
          )) c.put_expansion.ensures.expanded;
      already = let s = c.self.inside in
          let u : Traced = record { order = s.order.keys; expanded = s.expanded.items; dead = s.dead.items } in
          let h = c.in_ok-number.ensures in
          let here = new c.number.new.self u c.args.regex c.in_ok-number.number c.index.result.now c.self.view_is
          c.self.invariant.0 h.first c.index.ensures c.if-index.false in
          if_ok_more c.put_expansion.result _ _
          (λ e anew. anew_is_not_already e (IsExpandedIn c.args.self.now c.args.regex)
          (λ before. not_expanded c.args.self.now c.number.new.self c.args.regex c.in_ok-number.number h.stays h.first
          h.expanded_stay here before) anew) c.put_expansion.ensures.anew;
      spent = e.spent;
      spends = e.spends;
      limit = e.limit;
      only = let h = c.in_ok-number.ensures in
          let k = c.in_ok-classes.ensures in
          let stays = stays_both c.args.self.now c.number.new.self c.classes.new.self h.stays k.stays in
          let first = number_kept c.number.new.self c.classes.new.self c.args.regex c.in_ok-number.number k.stays
          h.first in
          if_ok_more c.put_expansion.result _ _
          (λ e marks n. expanded_put c.classes.new.self c.put_expansion.new.self e c.args.regex c.in_ok-number.number
          c.put_expansion.ensures.order first marks n
          ∙ ap (λ b. is_put e c.args.regex n || b)
          (expanded_same c.args.self.now c.classes.new.self stays (λ m. k.expanded_stay m ∙ h.expanded_stay m)
          c.marks_have_numbers.ensures.expanded n)) c.put_expansion.ensures.only;
      stays = (stay.0, e.order ∙ stay.1);
      dead = λ n.
          ap (λ dead. is_marked dead n) e.dead ∙ c.in_ok-classes.ensures.dead_stay n ∙
          c.in_ok-number.ensures.dead_stay n;
      marks = λ n h. c.put_expansion.ensures.marks n
          (c.in_ok-classes.ensures.expanded_stay n ∙ c.in_ok-number.ensures.expanded_stay n ∙ h);
      steps = e.steps;
      counts = subst (λ old. CountsTapeFault c.put_expansion.result old (g.L.Tape.faults c.put_expansion.new.tape))
          (c.in_ok-classes.ensures.counts ∙ c.in_ok-number.ensures.counts) e.counts;
    }

pub classes-requires : goal.classes-requires
classes-requires g c = c.requires.targets
