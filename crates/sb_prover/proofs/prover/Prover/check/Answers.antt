use Rattle.sb_prover.proofs.Words.{length, refl, sym, ap, subst, ◌∙◌, Backs, CountsTapeFault, Decided, HasSpent, HaveLevels, HaveRegexesBelow, IfOk-from_err, IsDecided, IsProved, IsTrue, IsVerdict, Knows, Proving, Said, Solution, asked_in, counts_on, err_from_is_err_and, false≢true, found, line, live_constants, state_of, text_of, verdict_in, verdict_line, verdict_of, with_bytes, more_same, ◌≡◌, true, are_declared, List, Assumption, is_unsat, question_of}
use Rattle.sb_stack.specs.declared.verdict.Verdict.{Verdict}
use Rattle.sb_prover.proofs.Proved.{solved-proved}
use Rattle.sb_prover.proofs.Solutions.{said-same, solved-verdict}
use Rattle.sb_prover.proofs.prover.Prover.check.Goals as goal

pub solution-requires : goal.solution-requires
solution-requires g c =
    let s = c.args.stack.now in
    let old = c.args.decider.now in
    let first = sym c.in_ok-begin.ensures.begun in
    record {
      knows = c.requires.knows;
      decided = c.requires.decided;
      terms = c.entries_lead_on.ensures.terms (state_of s) c.requires.fit;
      sorted = c.requires.sorted;
      declared = subst (λ (p : Proving). are_declared (state_of s).sorts p.evidence.atoms ≡ true) first
          c.requires.declared;
      regexes = subst (λ (p : Proving). HaveRegexesBelow (length old.store.arena) p.evidence.atoms) first
          c.requires.regexes;
      sound = subst (λ (p : Proving). IsTrue (asked_in (state_of s)) old.store.arena old.store.graph.memo p.evidence)
          first c.requires.sound;
    }

pub returns : goal.returns
returns g c =
    let s = c.args.stack.now in
    let knows = c.requires.knows in
    record {
      proves = λ proves. absurd (false≢true (sym c.if-not-proves.true ∙ proves));
      verdict = subst (λ (xs : List Assumption). IsVerdict (state_of s) s.assumptions (is_unsat xs))
          (sym c.no_assumptions.ensures)
          ((subst (λ (d : Decided). IsDecided c.args.decider.now s d) c.in-Dead.is c.requires.decided).1 s.assumptions);
      spent = tt;
      regexes = c.requires.regexes;
      declared = c.requires.declared;
      knows = record { inside = knows.inside; taken = knows.taken; words = knows.words; declared = knows.declared };
      store = more_same c.args.decider.now.store;
      rest = refl;
      levels = λ h. h;
      sound = c.requires.sound;
      counts = refl;
    }

pub returns-in_err-begin : goal.returns-in_err-begin
returns-in_err-begin g c =
    let x = c.from_residual in
    let p = err_from_is_err_and x.result x.ensures.1 in
    record {
      proves = IfOk-from_err x.result _ x.ensures.0;
      verdict = IfOk-from_err x.result _ x.ensures.0;
      spent = IfOk-from_err x.result _ x.ensures.0;
      regexes = IfOk-from_err x.result _ x.ensures.0;
      declared = IfOk-from_err x.result _ x.ensures.0;
      knows = IfOk-from_err x.result _ x.ensures.0;
      store = IfOk-from_err x.result _ x.ensures.0;
      rest = refl;
      levels = IfOk-from_err x.result _ x.ensures.0;
      sound = IfOk-from_err x.result _ x.ensures.0;
      counts = counts_on (Unit {0}) x.result p.0 _ _ _ p.1 p.2 c.in_err-begin.ensures.counts;
    }

pub returns-in_err-solution : goal.returns-in_err-solution
returns-in_err-solution g c =
    let x = c.from_residual-in_err-solution in
    let p = err_from_is_err_and x.result x.ensures.1 in
    record {
      proves = IfOk-from_err x.result _ x.ensures.0;
      verdict = IfOk-from_err x.result _ x.ensures.0;
      spent = IfOk-from_err x.result _ x.ensures.0;
      regexes = IfOk-from_err x.result _ x.ensures.0;
      declared = IfOk-from_err x.result _ x.ensures.0;
      knows = IfOk-from_err x.result _ x.ensures.0;
      store = IfOk-from_err x.result _ x.ensures.0;
      rest = c.in_err-solution.ensures.rest;
      levels = IfOk-from_err x.result _ x.ensures.0;
      sound = IfOk-from_err x.result _ x.ensures.0;
      counts = subst (λ old. CountsTapeFault x.result old (g.L.Tape.faults c.solution.new.tape))
          c.in_ok-begin.ensures.counts
          (counts_on Solution x.result p.0 _ _ _ p.1 p.2 c.in_err-solution.ensures.counts);
    }

pub returns-in_err-say_solution : goal.returns-in_err-say_solution
returns-in_err-say_solution g c =
    let x = c.from_residual-in_err-say_solution in
    let p = err_from_is_err_and x.result x.ensures.1 in
    record {
      proves = IfOk-from_err x.result _ x.ensures.0;
      verdict = IfOk-from_err x.result _ x.ensures.0;
      spent = IfOk-from_err x.result _ x.ensures.0;
      regexes = IfOk-from_err x.result _ x.ensures.0;
      declared = IfOk-from_err x.result _ x.ensures.0;
      knows = IfOk-from_err x.result _ x.ensures.0;
      store = IfOk-from_err x.result _ x.ensures.0;
      rest = c.in_ok-solution.ensures.rest;
      levels = IfOk-from_err x.result _ x.ensures.0;
      sound = IfOk-from_err x.result _ x.ensures.0;
      counts = subst (λ old. CountsTapeFault x.result old (g.L.Tape.faults c.say_solution.new.tape))
          (c.in_ok-solution.ensures.counts ∙ c.in_ok-begin.ensures.counts)
          (counts_on (Unit {0}) x.result p.0 _ _ _ p.1 p.2 c.in_err-say_solution.ensures.counts);
    }

pub returns-2 : goal.returns-2
returns-2 g c =
    let s = c.args.stack.now in
    let r = c.in_ok-solution.solution in
    let first = c.in_ok-begin.ensures.begun in
    let old = c.args.decider.now in
    let new = c.solution.new.decider in
    let e = c.in_ok-solution.ensures in
    let said = c.in_ok-say_solution.ensures in
    let told = g.L.Tape.told c.args.tape.now in
    let middle = g.L.Tape.told c.solution.new.tape in
    let last = g.L.Tape.told c.say_solution.new.tape in
    record {
      proves = λ proves before h.
          subst (λ (v : Verdict). IsProved (question_of s) (verdict_in (live_constants s) v) before
          new.store c.solution.new.self told last)
          (sym c.verdict_of.ensures)
          (subst (λ b. IsProved (question_of s) (verdict_in (live_constants s) (verdict_of r)) before
          new.store (record { evidence = c.solution.new.self.evidence; begun = b }) told last)
          (sym (e.begun ∙ ap (λ p. p.begun) first))
          (solved-proved s r before old.store new.store c.args.self.now c.solution.new.self.evidence told (g.L.Tape.told c.begin.new.tape)
          middle last (said.numbered proves) e.means h c.in_ok-begin.ensures.told
          (e.solved proves before.kept
          (subst (λ p. Backs old.store.arena old.store.graph.memo p.evidence before.kept) (sym first) h.backs)
          h.counted) e.regexes
          (said.told proves ∙ ap (λ (x : Said). with_bytes (line (text_of (verdict_line x))) middle)
          (said-same r c.solution.new.stack s e.rest))));
      verdict = subst (λ (v : Verdict). IsVerdict (state_of s) s.assumptions (verdict_in (live_constants s) v))
          (sym c.verdict_of.ensures)
          (solved-verdict c.clause_refutes.ensures s c.requires.fit c.assumptions-given.ensures.assumed.sorted new.store
          c.solution.new.self.evidence r e.sound e.means);
      spent = subst (HasSpent c.solution.new.budget) (sym c.verdict_of.ensures) e.spent;
      regexes = e.regexes;
      declared = e.declared;
      knows = subst (λ (v : Verdict). Knows new (found v c.solution.new.stack)) (sym c.verdict_of.ensures) e.knows;
      store = e.store;
      rest = e.rest;
      levels = λ h.
          e.levels (subst (λ (p : Proving). HaveLevels (asked_in (state_of s)).live p.evidence) (sym first) h);
      sound = e.sound;
      counts = said.counts ∙ e.counts ∙ c.in_ok-begin.ensures.counts;
    }
