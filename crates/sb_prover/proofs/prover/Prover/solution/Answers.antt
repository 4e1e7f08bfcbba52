use Rattle.sb_prover.proofs.Words.{length, ap, refl, sym, subst, ◌∙◌, Backs, CountsTapeFault, Decided, HaveLevels, HaveRegexesBelow, IfOk-from_err, IsDecided, IsSolution, IsTrue, Proving, Solved, Spending, Store, asked_in, counts_none, counts_on, err_from_is_err_and, state_of, KnowsMore, more_same, ◌≡◌, true, are_declared, []}
use Rattle.sb_prover.specs.declared.checking.Solution.TheVariants as solution
use Rattle.sb_prover.proofs.Solutions.{inside-of, asked-of, empty-says, counts-none, ready-then, solved-again, solved-now, solved-true, says-true, spent-all}
use Rattle.sb_prover.proofs.prover.Prover.solution.Goals as goal

pub searched-requires : goal.searched-requires
searched-requires g c =
    let s = c.args.stack.now in
    let old = c.args.decider.now in
    let same = sym c.self.view_is in
    record {
      knows = c.requires.knows;
      inside = sym (c.fragment_is_of_each.ensures (state_of s))
          ∙ inside-of c.fragment_is_of_each.ensures old s c.args.decided c.requires.decided c.in_default.not-Outside;
      asked = asked-of old s c.args.decided c.requires.decided c.in_default.not-Outside;
      terms = c.requires.terms;
      sorted = c.requires.sorted;
      declared = subst (λ (p : Proving). are_declared (state_of s).sorts p.evidence.atoms ≡ true) same
          c.requires.declared;
      regexes = subst (λ (p : Proving). HaveRegexesBelow (length old.store.arena) p.evidence.atoms) same
          c.requires.regexes;
      sound = subst (λ (p : Proving). IsTrue (asked_in (state_of s)) old.store.arena old.store.graph.memo p.evidence)
          same c.requires.sound;
    }

pub completed-requires : goal.completed-requires
completed-requires g c =
    let old = c.args.decider.now in
    record {
      knows = c.in_ok-solved.ensures.knows;
      ready = ready-then c.searched.new.decider c.args.stack.now old.store c.self.inside.evidence
          c.searched.new.evidence c.searched.new.budget c.in_ok-solved.solved c.in_ok-solved.ensures.solved;
    }

pub returns-in-Outside : goal.returns-in-Outside
returns-in-Outside g c =
    let s = c.args.stack.now in
    let old = c.args.decider.now in
    let knows = c.requires.knows in
    record {
      means = subst (λ (d : Decided). IsDecided old s d) c.in-Outside.is c.requires.decided [];
      solved = λ proves before backs counted.
          solved-again s before old.store c.args.self.now.evidence solution.Outside (g.L.Tape.told c.args.tape.now)
          backs tt;
      spent = tt;
      knows = record { inside = knows.inside; taken = knows.taken; words = knows.words; declared = knows.declared };
      store = more_same old.store;
      rest = refl;
      sound = c.requires.sound;
      regexes = c.requires.regexes;
      declared = c.requires.declared;
      begun = refl;
      levels = λ h. h;
      counts = refl;
    }

pub returns-in-Some : goal.returns-in-Some
returns-in-Some g c =
    let s = c.args.stack.now in
    let old = c.args.decider.now in
    let knows = c.requires.knows in
    record {
      means = empty-says s
          (inside-of c.fragment_is_of_each.ensures old s c.args.decided c.requires.decided c.in_default.not-Outside)
          c.self.inside.evidence c.args.self.now _ c.in-Some.empty c.no_assumptions.result c.no_assumptions.ensures
          (ap (λ (p : Proving). p.evidence) c.self.view_is) c.in-Some.is c.refuted.ensures.kept;
      solved = λ proves before backs counted.
          solved-again s before old.store c.args.self.now.evidence
          (solution.Unsat c.in-Some.empty.clause c.no_assumptions.result) (g.L.Tape.told c.args.tape.now) backs tt;
      spent = tt;
      knows = record { inside = knows.inside; taken = knows.taken; words = knows.words; declared = knows.declared };
      store = more_same old.store;
      rest = refl;
      sound = c.requires.sound;
      regexes = c.requires.regexes;
      declared = c.requires.declared;
      begun = refl;
      levels = λ h. h;
      counts = refl;
    }

pub returns-in_err-solved : goal.returns-in_err-solved
returns-in_err-solved g c =
    let x = c.from_residual in
    let p = err_from_is_err_and x.result x.ensures.1 in
    record {
      means = IfOk-from_err x.result _ x.ensures.0;
      solved = IfOk-from_err x.result _ x.ensures.0;
      spent = IfOk-from_err x.result _ x.ensures.0;
      knows = IfOk-from_err x.result _ x.ensures.0;
      store = IfOk-from_err x.result _ x.ensures.0;
      rest = refl;
      sound = IfOk-from_err x.result _ x.ensures.0;
      regexes = IfOk-from_err x.result _ x.ensures.0;
      declared = IfOk-from_err x.result _ x.ensures.0;
      begun = ap (λ (p : Proving). p.begun) c.self.view_is;
      levels = IfOk-from_err x.result _ x.ensures.0;
      counts = counts_on Solved x.result p.0 _ _ _ p.1 p.2 c.in_err-solved.ensures.counts;
    }

pub returns-in_err-solution : goal.returns-in_err-solution
returns-in_err-solution g c =
    let x = c.from_residual-in_err-solution in
    let p = err_from_is_err_and x.result x.ensures.1 in
    record {
      means = IfOk-from_err x.result _ x.ensures.0;
      solved = IfOk-from_err x.result _ x.ensures.0;
      spent = IfOk-from_err x.result _ x.ensures.0;
      knows = IfOk-from_err x.result _ x.ensures.0;
      store = IfOk-from_err x.result _ x.ensures.0;
      rest = c.in_err-solution.ensures.rest;
      sound = IfOk-from_err x.result _ x.ensures.0;
      regexes = IfOk-from_err x.result _ x.ensures.0;
      declared = IfOk-from_err x.result _ x.ensures.0;
      begun = ap (λ (p : Proving). p.begun) c.self.view_is;
      levels = IfOk-from_err x.result _ x.ensures.0;
      counts = subst (λ old. CountsTapeFault x.result old (g.L.Tape.faults c.searched.new.tape))
          c.in_ok-solved.ensures.counts
          (counts_none x.result p.0 (g.L.Tape.faults c.searched.new.tape) p.1 p.2);
    }

pub returns : goal.returns
returns g c =
    let s = c.args.stack.now in
    let old = c.args.decider.now in
    let mid = c.searched.new.decider in
    let e = c.self.inside.evidence in
    let f = c.searched.new.evidence in
    let budget = c.searched.new.budget in
    let told = g.L.Tape.told c.args.tape.now in
    let telling = g.L.Tape.told c.searched.new.tape in
    let found = c.in_ok-solved.ensures in
    let done = c.in_ok-solution.ensures in
    let same = sym c.self.view_is in
    let stays = sym done.store in
    let t = subst (λ (p : Proving). IsTrue (asked_in (state_of s)) old.store.arena old.store.graph.memo p.evidence) same
    c.requires.sound in
    record {
      means = says-true mid s
          (inside-of c.fragment_is_of_each.ensures old s c.args.decided c.requires.decided c.in_default.not-Outside)
          c.requires.terms c.assumptions-given.ensures.assumed.live old.store e f budget c.in_ok-solved.solved
          c.in_ok-solution.solution t found.solved done.completed;
      solved = λ proves before backs counted.
          let kept = subst (λ (p : Proving). Backs old.store.arena old.store.graph.memo p.evidence before) same backs in
          subst (λ (x : Store). IsSolution s before x f c.in_ok-solution.solution told telling) stays
          (solved-now mid s before old.store mid.store e f budget c.in_ok-solved.solved c.in_ok-solution.solution told
          telling
          (found.puts proves before kept (counts-none s before _ c.new.ensures counted)) found.solved
          done.completed);
      spent = spent-all mid s old.store e f budget c.in_ok-solved.solved c.in_ok-solution.solution
          (found.limit ∙ ap (λ (b : Spending). b.limit) c.new.ensures) found.solved done.completed;
      knows = done.knows;
      store = subst (KnowsMore old.store) stays found.store;
      rest = done.rest;
      sound = subst (λ (x : Store). IsTrue (asked_in (state_of s)) x.arena x.graph.memo f) stays
          (solved-true c.follows_by_rule.ensures c.line_stays_sound.ensures c.counted_again_stays_sound.ensures s
          c.requires.terms c.args.proves old.store mid.store e f _ budget told telling t
          (counts-none s t.kept _ c.new.ensures t.counted) found.puts found.sound);
      regexes = subst (λ (x : Store). HaveRegexesBelow (length x.arena) f.atoms) stays found.regexes;
      declared = found.declared;
      begun = ap (λ (p : Proving). p.begun) c.self.view_is;
      levels = λ h.
          found.levels (subst (λ (p : Proving). HaveLevels (asked_in (state_of s)).live p.evidence) same h);
      counts = found.counts;
    }
