use Rattle.sb_trace.specs.declared.trace.Expand.{Expand}
use Rattle.std.proofs.Common.{rules, ◌≢◌, ◌||◌, refl, sym, ap, ◌∙◌, arith, subst}
use Rattle.std.proofs.lemmas.Result.{IfOk-from_err, err_from_is_err_and}
use Rattle.std.proofs.lemmas.Bool.{true≢false, false≢true}
use Rattle.sb_regex.proofs.CallerLemmas.{numbers_kept, number_in}
use Rattle.sb_trace.specs.declared.trace.Expand.TheVariants as expand
use Rattle.sb_trace.specs.Tracking.{is_expanded_in, is_put}
use Rattle.sb_trace.specs.Reaching.{is_unexpanded}
use Rattle.sb_trace.specs.Closing.{GoesOn}
use Rattle.sb_trace.proofs.Growing.{traces_none, traces_both, goes_same, goes_both}
use Rattle.sb_trace.proofs.Counts.{expanded_next, spends_next, member_front, expanded_all, spent_all}
use Rattle.sb_trace.proofs.Spent.{spent_none, spent_both}
use Rattle.sb_trace.specs.Putting.{CountsTapeFault}
use Rattle.sb_trace.proofs.Exits.{counts_on}
use Rattle.sb_trace.proofs.trace.Trace.expand_each.Goals as goal

pub loop-regex-init : goal.loop-regex-init
loop-regex-init g c = record {
  goes = goes_same c.args.arena.now c.args.graph.now c.args.self.now c.requires.graph;
  known = c.requires.known;
  expanded = λ n. refl;
  spends = record { spent = omega arith; limit = refl; room = λ some. absurd (omega (arith, some)) };
  steps = spent_none c.args.budget.now;
  faults = refl;
  puts = λ asked before tracks counts.
      traces_none asked before c.args.arena.now c.args.graph.now.memo c.args.self.now c.args.budget.now
      (g.L.Tape.told c.args.tape.now) tracks counts;
}

pub loop-regex-preserved : goal.loop-regex-preserved
loop-regex-preserved g c =
    let before = c.loop-regex.invariant in
    let h = c.in_ok-expand.ensures in
    let e = c.in_ok-expand.field-0 in
    let not_spent : e ≢ expand.Spent = search (rules, c.in_default.not-Spent) in
    let goes : GoesOn c.loop-regex.arena c.expand.new.arena c.loop-regex.graph c.expand.new.graph c.loop-regex.self
    c.expand.new.self = record {
      stays = h.stays;
      buried = h.buried;
      expanded = h.expanded_stay;
      extends = h.extends;
      graph = h.graph;
      marks = h.marks;
      derivatives = h.derivatives_stay;
    } in
    record {
      goes = goes_both c.args.arena.now c.loop-regex.arena c.expand.new.arena c.args.graph.now c.loop-regex.graph
          c.expand.new.graph c.args.self.now c.loop-regex.self c.expand.new.self before.goes goes;
      known = numbers_kept c.loop-regex.arena c.expand.new.arena c.args.regexes.now h.extends before.known;
      expanded = expanded_next c.args.regexes.now c.loop-regex.regex-index c.regex-item.result c.loop-regex-test.true
          c.regex-item.is c.requires.once c.args.self.now c.loop-regex.self c.expand.new.self before.expanded e
          not_spent h.already h.only;
      spends = spends_next c.args.regexes.now c.loop-regex.regex-index c.regex-item.result c.loop-regex-test.true
          c.regex-item.is c.requires.once c.args.self.now c.loop-regex.self c.expand.new.self before.expanded e
          not_spent h.already c.args.budget.now c.loop-regex.budget c.expand.new.budget before.spends h.spends;
      steps = spent_both c.args.budget.now c.loop-regex.budget c.expand.new.budget before.steps h.steps;
      faults = h.counts ∙ before.faults;
      puts = λ asked kept tracks counts.
          traces_both asked kept c.loop-regex.arena c.expand.new.arena c.loop-regex.graph.memo
          c.expand.new.graph.memo c.loop-regex.self c.expand.new.self c.loop-regex.budget c.expand.new.budget
          (g.L.Tape.told c.args.tape.now) (g.L.Tape.told c.loop-regex.tape) (g.L.Tape.told c.expand.new.tape)
          (before.puts asked kept tracks counts) (λ after t n. h.puts asked after t n);
    }

pub returns-in_err-expand : goal.returns-in_err-expand
returns-in_err-expand g c =
    let x = c.from_residual in
    let p = err_from_is_err_and x.result x.ensures.1 in
    record {
      puts = IfOk-from_err x.result _ x.ensures.0;
      expanded = IfOk-from_err x.result _ x.ensures.0;
      only = IfOk-from_err x.result _ x.ensures.0;
      spends = IfOk-from_err x.result _ x.ensures.0;
      spent = IfOk-from_err x.result _ x.ensures.0;
      limit = c.in_err-expand.ensures.limit ∙ c.loop-regex.invariant.spends.limit;
      goes = let h = c.in_err-expand.ensures in
          goes_both c.args.arena.now c.loop-regex.arena c.expand.new.arena c.args.graph.now c.loop-regex.graph
          c.expand.new.graph c.args.self.now c.loop-regex.self c.expand.new.self c.loop-regex.invariant.goes
          (record {
            stays = h.stays;
            buried = h.buried;
            expanded = h.expanded_stay;
            extends = h.extends;
            graph = h.graph;
            marks = h.marks;
            derivatives = h.derivatives_stay;
          });
      steps = spent_both c.args.budget.now c.loop-regex.budget c.expand.new.budget c.loop-regex.invariant.steps
          c.in_err-expand.ensures.steps;
      counts = subst (λ old. CountsTapeFault x.result old (g.L.Tape.faults c.expand.new.tape)) c.loop-regex.invariant.faults
          (counts_on Expand x.result p.0 _ _ _ p.1 p.2 c.in_err-expand.ensures.counts);
    }

pub returns-in-Spent : goal.returns-in-Spent
returns-in-Spent g c =
    record {
      puts = let before = c.loop-regex.invariant in
          let h = c.in_ok-expand.ensures in
          λ asked kept tracks counts.
          traces_both asked kept c.loop-regex.arena c.expand.new.arena c.loop-regex.graph.memo c.expand.new.graph.memo
          c.loop-regex.self c.expand.new.self c.loop-regex.budget c.expand.new.budget (g.L.Tape.told c.args.tape.now)
          (g.L.Tape.told c.loop-regex.tape) (g.L.Tape.told c.expand.new.tape) (before.puts asked kept tracks counts)
          (λ after t n. h.puts asked after t n);
      expanded = λ done. absurd (false≢true done);
      only = let before = c.loop-regex.invariant in
          let h = c.in_ok-expand.ensures in
          λ n there.
          let none = ap (λ e. is_put e c.regex-item.result n || is_expanded_in c.loop-regex.self n) c.in-Spent.is in
          member_front c.args.regexes.now c.loop-regex.regex-index n (is_expanded_in c.args.self.now n)
          (sym (h.only n ∙ none ∙ before.expanded n) ∙ there);
      spends = λ done. absurd (false≢true done);
      spent = λ stopped. c.in_ok-expand.ensures.spent c.in-Spent.is;
      limit = c.in_ok-expand.ensures.limit ∙ c.loop-regex.invariant.spends.limit;
      goes = let h = c.in_ok-expand.ensures in
          goes_both c.args.arena.now c.loop-regex.arena c.expand.new.arena c.args.graph.now c.loop-regex.graph
          c.expand.new.graph c.args.self.now c.loop-regex.self c.expand.new.self c.loop-regex.invariant.goes
          (record {
            stays = h.stays;
            buried = h.buried;
            expanded = h.expanded_stay;
            extends = h.extends;
            graph = h.graph;
            marks = h.marks;
            derivatives = h.derivatives_stay;
          });
      steps = spent_both c.args.budget.now c.loop-regex.budget c.expand.new.budget c.loop-regex.invariant.steps
          c.in_ok-expand.ensures.steps;
      counts = c.in_ok-expand.ensures.counts ∙ c.loop-regex.invariant.faults;
    }

pub returns : goal.returns
returns g c =
    let i = c.loop-regex.invariant in
    record {
      puts = i.puts;
      expanded = λ done.
          expanded_all c.args.regexes.now c.loop-regex.regex-index c.args.self.now c.loop-regex.self
          c.loop-regex-test.false
          c.loop-regex.invariant.expanded;
      only = λ n there.
          sym (expanded_all c.args.regexes.now c.loop-regex.regex-index c.args.self.now c.loop-regex.self
          c.loop-regex-test.false c.loop-regex.invariant.expanded n) ∙ there;
      spends = λ done.
          spent_all (is_unexpanded c.args.self.now) c.args.regexes.now c.loop-regex.regex-index c.args.budget.now
          c.loop-regex.budget c.loop-regex-test.false c.loop-regex.invariant.spends;
      spent = λ stopped. absurd (true≢false stopped);
      limit = c.loop-regex.invariant.spends.limit;
      goes = i.goes;
      steps = c.loop-regex.invariant.steps;
      counts = i.faults;
    }

pub expand-requires : goal.expand-requires
expand-requires g c =
    record {
      known = number_in c.loop-regex.arena c.args.regexes.now c.loop-regex.regex-index c.regex-item.result
          c.loop-regex.invariant.known c.loop-regex-test.true c.regex-item.is;
      graph = c.loop-regex.invariant.goes.graph;
    }
