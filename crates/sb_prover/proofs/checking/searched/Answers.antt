use Rattle.sb_prover.proofs.Words.{◌<◌, ap, length, refl, subst, sym, ◌∙◌, All, AreAsked, Decider, IfOk-from_err, IsAsked, Solved, asked_in, counts_none, counts_on, err_from_is_err_and, more_same, puts_none, state_of}
use Rattle.sb_prover.proofs.Solutions.{asked-below, levels-known, none-valued, values-found, found-by}
use Rattle.sb_prover.proofs.checking.searched.Goals as goal

pub asked_places-requires : goal.asked_places-requires
asked_places-requires g c = λ is. subst (IsAsked c.args.decider.now c.args.stack.now) is c.requires.asked

pub solve-requires : goal.solve-requires
solve-requires g c =
    let s = c.args.stack.now in
    let old = c.args.decider.now in
    record {
      places = subst (All (λ place. place < length s.assertions)) (sym c.deref-2.ensures.value)
          (asked-below old.others.items s c.args.decided c.in_ok-places.places.items
          (c.in_ok-places.ensures s c.requires.knows c.requires.asked));
      decided = c.requires.inside;
      sorted = c.requires.sorted;
      declared = c.requires.declared;
      store = c.requires.knows.taken.store;
      regexes = c.requires.regexes;
    }

pub returns-in_err-places : goal.returns-in_err-places
returns-in_err-places g c =
    let x = c.from_residual in
    let p = err_from_is_err_and x.result x.ensures.1 in
    record {
      puts = IfOk-from_err x.result _ x.ensures.0;
      solved = IfOk-from_err x.result _ x.ensures.0;
      sound = IfOk-from_err x.result _ x.ensures.0;
      limit = IfOk-from_err x.result _ x.ensures.0;
      knows = IfOk-from_err x.result _ x.ensures.0;
      store = IfOk-from_err x.result _ x.ensures.0;
      regexes = IfOk-from_err x.result _ x.ensures.0;
      declared = IfOk-from_err x.result _ x.ensures.0;
      levels = IfOk-from_err x.result _ x.ensures.0;
      counts = counts_none x.result p.0 (g.L.Tape.faults c.args.tape.now) p.1 p.2;
    }

pub returns-then-are_none : goal.returns-then-are_none
returns-then-are_none g c =
    let s = c.args.stack.now in
    let old = c.args.decider.now in
    let before = c.args.evidence.now in
    let places = c.in_ok-places.places.items in
    let none = sym (ap length c.deref.ensures.value) ∙ c.are_none.ensures.places c.if-are_none.true in
    let alone = sym (ap length c.assumptions.ensures.value) ∙ c.are_none.ensures.given c.if-are_none.true in
    record {
      puts = λ proves kept backs counts. record {
        after = kept;
        puts = puts_none (asked_in (state_of s)) kept (g.L.Tape.told c.args.tape.now);
        backs = backs;
        counts = counts;
      };
      solved = values-found c.normal_has_terms_words.ensures old s c.args.decided places old.store before
          c.requires.terms c.requires.sound c.assertions-assertions.ensures.named
          (c.in_ok-places.ensures s c.requires.knows c.requires.asked)
          (λ is. subst (IsAsked old s) is c.requires.asked) c.new.result.items c.new-then-are_none.result.items
          (none-valued s places old.store before c.new.result.items c.new-then-are_none.result.items
          c.new.ensures.items c.new-then-are_none.ensures.items none alone);
      sound = λ proves. c.requires.sound;
      limit = refl;
      knows = c.requires.knows;
      store = more_same old.store;
      regexes = c.requires.regexes;
      declared = c.requires.declared;
      levels = λ h. h;
      counts = refl;
    }

pub returns-in_err-solved : goal.returns-in_err-solved
returns-in_err-solved g c =
    let x = c.from_residual-in_err-solved in
    let p = err_from_is_err_and x.result x.ensures.1 in
    record {
      puts = IfOk-from_err x.result _ x.ensures.0;
      solved = IfOk-from_err x.result _ x.ensures.0;
      sound = IfOk-from_err x.result _ x.ensures.0;
      limit = IfOk-from_err x.result _ x.ensures.0;
      knows = IfOk-from_err x.result _ x.ensures.0;
      store = IfOk-from_err x.result _ x.ensures.0;
      regexes = IfOk-from_err x.result _ x.ensures.0;
      declared = IfOk-from_err x.result _ x.ensures.0;
      levels = IfOk-from_err x.result _ x.ensures.0;
      counts = counts_on Solved x.result p.0 _ _ _ p.1 p.2 c.in_err-solved.ensures.counts;
    }

pub returns : goal.returns
returns g c =
    let s = c.args.stack.now in
    let old = c.args.decider.now in
    let x = c.solve.new in
    let new : Decider = record old { store = x.store } in
    let before = c.args.evidence.now in
    let e = c.in_ok-solved.ensures in
    record {
      puts = e.puts;
      solved = found-by c.normal_has_terms_words.ensures new s c.args.decided c.deref-2.result.now old.store before
          c.requires.terms c.requires.sound c.assertions-assertions.ensures.named
          (subst (AreAsked old.others.items s c.args.decided) (sym c.deref-2.ensures.value)
          (c.in_ok-places.ensures s c.requires.knows c.requires.asked))
          (λ is. c.ready_grown.ensures old x.store s e.store (subst (IsAsked old s) is c.requires.asked))
          x.evidence x.budget c.in_ok-solved.solved e.answer;
      sound = λ proves. e.sound proves c.requires.terms c.requires.sound;
      limit = e.limit;
      knows = c.knows_grown.ensures old x.store s e.store c.requires.knows;
      store = e.store.more;
      regexes = e.regexes;
      declared = e.declared;
      levels = levels-known (asked_in (state_of s)).live before x.evidence e.levels;
      counts = e.counts;
    }
