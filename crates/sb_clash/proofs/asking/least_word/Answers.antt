use Rattle.sb_clash.proofs.Words.{subst, IfOk, IfOk-from_err, Regex, language, names_below, IsFinding}
use Rattle.sb_clash.proofs.AskedFacts.{explores_arena, explores_both, root_asked}
use Rattle.sb_clash.proofs.asking.least_word.Goals as goal

pub least_word-requires : goal.least_word-requires
least_word-requires c =
    let e = c.in_ok-root.ensures in
    record {
      known = names_below c.meet.new.arena c.in_ok-root.root _ e.ok;
      graph = (explores_arena c.graph_stays.ensures e.extends c.requires.graph).graph;
    }

pub answer-requires : goal.answer-requires
answer-requires c =
    let e = c.in_ok-root.ensures in
    record {
      known = names_below c.meet.new.arena c.in_ok-root.root _ e.ok;
      graph = (explores_arena c.graph_stays.ensures e.extends c.requires.graph).graph;
    }

pub returns-in_err-root : goal.returns-in_err-root
returns-in_err-root c =
    let r = c.from_residual in
    record {
      found = IfOk-from_err r.result _ r.ensures.0;
      explores = explores_arena c.graph_stays.ensures c.in_err-root.ensures.extends c.requires.graph;
    }

pub returns-then-marks : goal.returns-then-marks
returns-then-marks c =
    let e = c.in_ok-root.ensures in
    let w = c.answer.ensures in
    record {
      found = subst (λ (r : Regex). IfOk c.answer.result (IsFinding (language r)))
          (root_asked c.args.arena.now c.meet.new.arena c.answer.new.arena c.args.atoms.now c.args.serial.0
          c.in_ok-root.root c.args.literals.now e.extends w.extends c.requires.regexes c.requires.about e.ok) w.found;
      explores = explores_both (explores_arena c.graph_stays.ensures e.extends c.requires.graph)
          (record { extends = w.extends; graph = w.graph; derivatives = w.derivatives_stay; marks = w.marks_stay });
    }

pub returns : goal.returns
returns c =
    let e = c.in_ok-root.ensures in
    let w = c.least_word.ensures in
    record {
      found = subst (λ (r : Regex). IfOk c.least_word.result (IsFinding (language r)))
          (root_asked c.args.arena.now c.meet.new.arena c.least_word.new.arena c.args.atoms.now c.args.serial.0
          c.in_ok-root.root c.args.literals.now e.extends w.extends c.requires.regexes c.requires.about e.ok) w.found;
      explores = explores_both (explores_arena c.graph_stays.ensures e.extends c.requires.graph)
          (record { extends = w.extends; graph = w.graph; derivatives = w.derivatives_stay; marks = w.marks_stay });
    }
