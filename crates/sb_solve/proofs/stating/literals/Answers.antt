use Rattle.sb_solve.proofs.Words.{ℕ, ◌+◌, List, ◌++◌, [], ◌∷◌, get_or, take, refl, sym, subst, ◌∙◌, arith, take_more, take_all, IfOk-from_err, err_from_is_err_and, counts_none, counts_on, CountsTapeFault, Lit, AreStated}
use Rattle.sb_solve.proofs.Stated.{stated_none, stated_more}
use Rattle.sb_solve.proofs.stating.literals.Goals as goal

pub loop-place-init : goal.loop-place-init
loop-place-init g c =
    let told = g.L.Tape.told c.args.tape.now in
    let x = c.args.store.now in
    let e = c.args.evidence.now in (
      refl,
      subst (AreStated c.args.stack.now [] x x e e told told) (sym c.new-literals.ensures.items)
          (stated_none c.args.stack.now x e told c.requires.regexes),
    )

pub state-requires : goal.state-requires
state-requires g c =
    let stated = c.loop-place.invariant.1 in
    record {
      there = c.requires.places c.loop-place.place-index _ c.loop-place-test.true;
      decided = c.requires.decided;
      sorted = c.requires.sorted;
      store = stated.store.right c.requires.store;
      regexes = stated.regexes;
    }

pub loop-place-preserved : goal.loop-place-preserved
loop-place-preserved g c =
    let s = c.args.stack.now in
    let i = c.loop-place.place-index in
    let places = c.args.places.now in
    let ls = c.loop-place.literals.items in
    let l = c.in_ok-literal.literal in
    let x = c.args.store.now in
    let z = c.state.new.store in
    let e = c.args.evidence.now in
    let k = c.state.new.evidence in
    let told = g.L.Tape.told c.args.tape.now in
    let new = g.L.Tape.told c.state.new.tape in
    let h = c.loop-place.invariant in (
      c.in_ok-literal.ensures.counts ∙ h.0,
      subst (AreStated s (take (i + 1) places) x z e k told new) (sym c.in_ok-put.ensures)
          (subst (λ (ps : List ℕ). AreStated s ps x z e k told new (ls ++ l ∷ []))
          (sym (take_more places i 0 c.loop-place-test.true))
          (stated_more c.translation_stays.ensures s (take i places) x c.loop-place.store z e c.loop-place.evidence k
          told (g.L.Tape.told c.loop-place.tape) new ls (get_or places i 0) l h.1 c.in_ok-literal.ensures.states)),
    )

pub returns : goal.returns
returns g c =
    let h = c.loop-place.invariant in
    record {
      stated = subst (λ (ps : List ℕ). AreStated c.args.stack.now ps c.args.store.now c.loop-place.store
          c.args.evidence.now c.loop-place.evidence (g.L.Tape.told c.args.tape.now)
          (g.L.Tape.told c.loop-place.tape) c.loop-place.literals.items)
          (take_all c.loop-place.place-index c.args.places.now (omega (arith, c.loop-place-test.false))) h.1;
      counts = h.0;
    }

pub returns-in_err-literal : goal.returns-in_err-literal
returns-in_err-literal g c =
    let x = c.from_residual in
    let p = err_from_is_err_and x.result x.ensures.1 in
    record {
      stated = IfOk-from_err x.result _ x.ensures.0;
      counts = subst (λ n. CountsTapeFault x.result n (g.L.Tape.faults c.state.new.tape)) c.loop-place.invariant.0
          (counts_on Lit x.result p.0 _ _ _ p.1 p.2 c.in_err-literal.ensures.counts);
    }

pub returns-in_err-put : goal.returns-in_err-put
returns-in_err-put g c =
    let x = c.from_residual-in_err-put in
    let p = err_from_is_err_and x.result x.ensures.1 in
    record {
      stated = IfOk-from_err x.result _ x.ensures.0;
      counts = subst (λ n. CountsTapeFault x.result (g.L.Tape.faults c.args.tape.now) n)
          (sym (c.in_ok-literal.ensures.counts ∙ c.loop-place.invariant.0)) (counts_none x.result p.0 _ p.1 p.2);
    }
