use Rattle.sb_solve.proofs.Words.{◌≡◌, ◌+◌, List, ◌++◌, [], ◌∷◌, take, refl, ap, sym, subst, ◌∙◌, arith, take_more, take_all, IfOk-from_err, err_from_is_err_and, counts_none, counts_on, Assumes, Assumption, CountsTapeFault, Lit}
use Rattle.sb_solve.proofs.Stated.{assumes_none, assumes_both}
use Rattle.sb_solve.proofs.stating.assumed.Goals as goal

pub loop-assumption-init : goal.loop-assumption-init
loop-assumption-init g c =
    let told = g.L.Tape.told c.args.tape.now in
    let e = c.args.evidence.now in (
      refl,
      subst (Assumes [] c.args.arena.now e e told told) (sym c.new-literals.ensures.items)
          (assumes_none c.args.arena.now e told c.requires.regexes),
    )

pub assume-requires : goal.assume-requires
assume-requires g c = record { regexes = c.loop-assumption.invariant.1.regexes }

pub loop-assumption-preserved : goal.loop-assumption-preserved
loop-assumption-preserved g c =
    let i = c.loop-assumption.assumption-index in
    let given = c.args.given.now in
    let ls = c.loop-assumption.literals.items in
    let l = c.in_ok-literal.literal in
    let rs = c.args.arena.now in
    let e = c.args.evidence.now in
    let k = c.assume.new.evidence in
    let told = g.L.Tape.told c.args.tape.now in
    let new = g.L.Tape.told c.assume.new.tape in
    let a = c.assumption-item.result in
    let more : take (i + 1) given ≡ take i given ++ a ∷ [] = take_more given i a c.loop-assumption-test.true
    ∙ ap (λ (x : Assumption). take i given ++ x ∷ []) (sym c.assumption-item.is) in
    let h = c.loop-assumption.invariant in (
      c.in_ok-literal.ensures.counts ∙ h.0,
      subst (Assumes (take (i + 1) given) rs e k told new) (sym c.in_ok-put.ensures)
          (subst (λ (xs : List Assumption). Assumes xs rs e k told new (ls ++ l ∷ [])) (sym more)
          (assumes_both (take i given) (a ∷ []) rs e c.loop-assumption.evidence k told
          (g.L.Tape.told c.loop-assumption.tape) new ls (l ∷ []) h.1 c.in_ok-literal.ensures.assumes)),
    )

pub returns : goal.returns
returns g c =
    let h = c.loop-assumption.invariant in
    record {
      assumes = subst (λ (xs : List Assumption). Assumes xs c.args.arena.now c.args.evidence.now
          c.loop-assumption.evidence (g.L.Tape.told c.args.tape.now) (g.L.Tape.told c.loop-assumption.tape)
          c.loop-assumption.literals.items)
          (take_all c.loop-assumption.assumption-index c.args.given.now (omega (arith, c.loop-assumption-test.false)))
          h.1;
      counts = h.0;
    }

pub returns-in_err-literal : goal.returns-in_err-literal
returns-in_err-literal g c =
    let x = c.from_residual in
    let p = err_from_is_err_and x.result x.ensures.1 in
    record {
      assumes = IfOk-from_err x.result _ x.ensures.0;
      counts = subst (λ n. CountsTapeFault x.result n (g.L.Tape.faults c.assume.new.tape))
          c.loop-assumption.invariant.0
          (counts_on Lit x.result p.0 _ _ _ p.1 p.2 c.in_err-literal.ensures.counts);
    }

pub returns-in_err-put : goal.returns-in_err-put
returns-in_err-put g c =
    let x = c.from_residual-in_err-put in
    let p = err_from_is_err_and x.result x.ensures.1 in
    record {
      assumes = IfOk-from_err x.result _ x.ensures.0;
      counts = subst (λ n. CountsTapeFault x.result (g.L.Tape.faults c.args.tape.now) n)
          (sym (c.in_ok-literal.ensures.counts ∙ c.loop-assumption.invariant.0)) (counts_none x.result p.0 _ p.1 p.2);
    }
