use Rattle.sb_clash.proofs.Words.{◌∙◌, ap, false, map, refl, subst, sym, AreAbout, IfOk-from_err, IfOk-weaker, Names, asked_by_all, counts_none, counts_on, err_from_is_err_and, extends_more, false≢true, language, names_below, negation, regex_at, sofar, spent_both, spent_none, stays_same, tracks_grow, CountsTapeFault, IsExploring, Explore}
use Rattle.sb_clash.proofs.AskedFacts.{explores_arena, explores_both, explores_none}
use Rattle.sb_clash.proofs.DenialFacts.{about_negations, behind_traces, can_be_denied, denial_waits, never_alive, ticks_later}
use Rattle.sb_clash.proofs.ExpandedFacts.{expands_asked}
use Rattle.sb_clash.proofs.denying.put_denial.Goals as goal

pub meet-requires : goal.meet-requires
meet-requires g c = record {
  about = subst (AreAbout c.args.atoms.now c.args.serial.0)
      (sym (c.deref.ensures.value ∙ c.in_ok-literals.ensures ∙ ap (map negation) c.literals.ensures))
      (about_negations c.args.atoms.now c.args.serial.0 c.args.clause.now c.requires.denial.about);
  regexes = c.requires.regexes;
}

pub explore-requires : goal.explore-requires
explore-requires g c =
    let e = c.in_ok-root.ensures in
    record {
      known = names_below c.meet.new.arena c.in_ok-root.root _ e.ok;
      graph = (explores_arena c.graph_stays.ensures e.extends c.requires.graph).graph;
    }

pub returns-in_err-literals : goal.returns-in_err-literals
returns-in_err-literals g c =
    let r = c.from_residual in
    let p = err_from_is_err_and r.result r.ensures.1 in
    record {
      puts = IfOk-from_err r.result _ r.ensures.0;
      ticks = IfOk-from_err r.result _ r.ensures.0;
      only = IfOk-from_err r.result _ r.ensures.0;
      steps = spent_none c.args.budget.now;
      stays = stays_same c.args.trace.now;
      expanded_stay = λ n was. was;
      explores = explores_none c.requires.graph;
      counts = counts_none r.result p.0 _ p.1 p.2;
    }

pub returns-in_err-root : goal.returns-in_err-root
returns-in_err-root g c =
    let r = c.from_residual-in_err-root in
    let p = err_from_is_err_and r.result r.ensures.1 in
    record {
      puts = IfOk-from_err r.result _ r.ensures.0;
      ticks = IfOk-from_err r.result _ r.ensures.0;
      only = IfOk-from_err r.result _ r.ensures.0;
      steps = spent_none c.args.budget.now;
      stays = stays_same c.args.trace.now;
      expanded_stay = λ n was. was;
      explores = explores_arena c.graph_stays.ensures c.in_err-root.ensures.extends c.requires.graph;
      counts = counts_none r.result p.0 _ p.1 p.2;
    }

pub returns-in_err-explore : goal.returns-in_err-explore
returns-in_err-explore g c =
    let r = c.from_residual-in_err-explore in
    let p = err_from_is_err_and r.result r.ensures.1 in
    let h = c.in_err-explore.ensures in
    record {
      puts = IfOk-from_err r.result _ r.ensures.0;
      ticks = IfOk-from_err r.result _ r.ensures.0;
      only = IfOk-from_err r.result _ r.ensures.0;
      steps = h.steps;
      stays = h.stays;
      expanded_stay = h.expanded_stay;
      explores = explores_both (explores_arena c.graph_stays.ensures c.in_ok-root.ensures.extends c.requires.graph)
          (record { extends = h.extends; graph = h.graph; derivatives = h.derivatives_stay; marks = h.marks_stay });
      counts = counts_on Explore r.result p.0 _ _ _ p.1 p.2 h.counts;
    }

pub returns-in-Dead : goal.returns-in-Dead
returns-in-Dead g c =
    let root = c.in_ok-root.ensures in
    let h = c.in_ok-explore.ensures in
    let line = c.put_line.ensures in
    let mid = sofar c.explore.new.arena c.explore.new.graph c.explore.new.self c.explore.new.budget
    (g.L.Tape.told c.explore.new.tape) in
    let names = subst (λ ls. Names c.meet.new.arena c.in_ok-root.root (asked_by_all c.meet.new.arena c.args.atoms.now ls))
    (c.deref.ensures.value ∙ c.in_ok-literals.ensures ∙ ap (map negation) c.literals.ensures) root.ok in
    record {
      puts = IfOk-weaker c.put_line.result _ _
          (λ done puts. behind_traces
          (sofar c.args.arena.now c.args.graph.now c.args.trace.now c.args.budget.now (g.L.Tape.told c.args.tape.now)) mid
          (sofar c.explore.new.arena c.explore.new.graph c.explore.new.self c.put_line.new.budget
          (g.L.Tape.told c.put_line.new.tape)) c.args.atoms.now c.args.clause.now done
          (extends_more c.args.arena.now c.meet.new.arena c.explore.new.arena root.extends h.extends) c.requires.regexes
          (λ asked before tracks. h.puts asked before
          (tracks_grow c.args.arena.now c.meet.new.arena c.args.graph.now.memo c.args.graph.now.memo c.args.trace.now
          before root.extends (λ n pieces k. k) tracks))
          (puts c.explore.new.arena c.explore.new.graph c.explore.new.self c.args.atoms.now
          (can_be_denied c.args.arena.now c.meet.new.arena c.explore.new.arena c.explore.new.self c.args.atoms.now
          c.args.serial.0 c.in_ok-root.root c.args.clause.now root.extends h.extends c.requires.regexes c.requires.denial
          names (h.dead c.in-Dead.is)))) line.puts;
      ticks = IfOk-weaker c.put_line.result _ _
          (λ done. ticks_later c.args.budget.now c.explore.new.budget c.put_line.new.budget done h.steps.spent) line.ticks;
      steps = spent_both c.args.budget.now c.explore.new.budget c.put_line.new.budget h.steps line.steps;
      stays = h.stays;
      expanded_stay = h.expanded_stay;
      only = IfOk-weaker c.put_line.result _ _
          (λ done ticks. expands_asked c.args.arena.now c.meet.new.arena c.explore.new.arena c.args.trace.now
          c.explore.new.self c.args.atoms.now c.args.serial.0 c.in_ok-root.root c.args.clause.now root.extends h.extends
          c.requires.regexes c.requires.denial.about names h.only) line.ticks;
      explores = explores_both (explores_arena c.graph_stays.ensures root.extends c.requires.graph)
          (record { extends = h.extends; graph = h.graph; derivatives = h.derivatives_stay; marks = h.marks_stay });
      counts = subst (λ old. CountsTapeFault c.put_line.result old (g.L.Tape.faults c.put_line.new.tape)) h.counts
          line.counts;
    }

pub returns-in-Spent : goal.returns-in-Spent
returns-in-Spent g c =
    let root = c.in_ok-root.ensures in
    let h = c.in_ok-explore.ensures in
    let now = sofar c.explore.new.arena c.explore.new.graph c.explore.new.self c.explore.new.budget
    (g.L.Tape.told c.explore.new.tape) in
    let names = subst (λ ls. Names c.meet.new.arena c.in_ok-root.root (asked_by_all c.meet.new.arena c.args.atoms.now ls))
    (c.deref.ensures.value ∙ c.in_ok-literals.ensures ∙ ap (map negation) c.literals.ensures) root.ok in
    record {
      puts = behind_traces
          (sofar c.args.arena.now c.args.graph.now c.args.trace.now c.args.budget.now (g.L.Tape.told c.args.tape.now)) now
          now c.args.atoms.now c.args.clause.now false
          (extends_more c.args.arena.now c.meet.new.arena c.explore.new.arena root.extends h.extends) c.requires.regexes
          (λ asked before tracks. h.puts asked before
          (tracks_grow c.args.arena.now c.meet.new.arena c.args.graph.now.memo c.args.graph.now.memo c.args.trace.now
          before root.extends (λ n pieces k. k) tracks)) (denial_waits c.explore.new.arena c.explore.new.graph
          c.explore.new.self c.explore.new.budget c.explore.new.budget (g.L.Tape.told c.explore.new.tape) c.args.atoms.now
          c.args.clause.now refl);
      ticks = record { more = λ done. absurd (false≢true done); spent = λ waits. h.spent c.in-Spent.is };
      steps = h.steps;
      stays = h.stays;
      expanded_stay = h.expanded_stay;
      only = expands_asked c.args.arena.now c.meet.new.arena c.explore.new.arena c.args.trace.now c.explore.new.self
          c.args.atoms.now c.args.serial.0 c.in_ok-root.root c.args.clause.now root.extends h.extends
          c.requires.regexes c.requires.denial.about names h.only;
      explores = explores_both (explores_arena c.graph_stays.ensures root.extends c.requires.graph)
          (record { extends = h.extends; graph = h.graph; derivatives = h.derivatives_stay; marks = h.marks_stay });
      counts = h.counts;
    }

pub unreachable-requires : goal.unreachable-requires
unreachable-requires g c =
    let root = c.in_ok-root.ensures in
    never_alive c.args.arena.now c.meet.new.arena c.args.atoms.now c.args.serial.0 c.in_ok-root.root c.args.clause.now
    c.in-Alive.field-0 root.extends c.requires.regexes c.requires.denial
    (subst (λ ls. Names c.meet.new.arena c.in_ok-root.root (asked_by_all c.meet.new.arena c.args.atoms.now ls))
    (c.deref.ensures.value ∙ c.in_ok-literals.ensures ∙ ap (map negation) c.literals.ensures) root.ok)
    (subst (IsExploring (language (regex_at c.meet.new.arena c.in_ok-root.root))) c.in-Alive.is
    c.in_ok-explore.ensures.found)
