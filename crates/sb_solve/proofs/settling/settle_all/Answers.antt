use Rattle.sb_solve.proofs.Words.{Bool, List, refl, sym, subst, ◌∙◌, AllSettle, CountsTapeFault, IfOk-from_err, Lit, Settles, counts_on, err_from_is_err_and}
use Rattle.sb_solve.proofs.Goings.{all-more, all-none, atom-known, settlement-spent}
use Rattle.sb_solve.proofs.settling.settle_all.Goals as goal

pub loop-atom-init : goal.loop-atom-init
loop-atom-init g c =
    let x = c.args.store.now in
    let e = c.args.evidence.now in
    let told = g.L.Tape.told c.args.tape.now in (
      refl,
      subst (λ (ls : List Lit). AllSettle c.args.proves x e c.args.budget.now told x e c.args.budget.now told ls)
          (sym c.new-ends.ensures.items) (all-none c.args.proves x e c.args.budget.now told c.requires.regexes),
    )

pub settle_one-requires : goal.settle_one-requires
settle_one-requires g c =
    let goes = c.loop-atom.invariant.1.goes in
    record {
      known = atom-known c.args.evidence.now.atoms c.loop-atom.evidence.atoms c.args.numbers.now
          c.loop-atom.atom-index _ c.requires.known c.loop-atom-test.true goes.atoms;
      store = goes.store.right c.requires.store;
      regexes = goes.regexes;
    }

pub returns-then-not-done : goal.returns-then-not-done
returns-then-not-done g c =
    let h = c.loop-atom.invariant in
    let new = g.L.Tape.told c.settle_one.new.tape in
    record {
      settles = settlement-spent c.args.proves c.args.store.now c.loop-atom.store c.settle_one.new.store
          c.args.evidence.now c.loop-atom.evidence c.settle_one.new.evidence c.args.budget.now c.loop-atom.budget
          c.settle_one.new.budget (g.L.Tape.told c.args.tape.now) (g.L.Tape.told c.loop-atom.tape) new
          c.loop-atom.ends.items c.settle_one.new.ends.items h.1.goes
          (subst (λ (b : Bool). Settles c.args.proves c.loop-atom.store c.loop-atom.evidence c.loop-atom.budget
          (g.L.Tape.told c.loop-atom.tape) c.loop-atom.ends.items c.settle_one.new.store c.settle_one.new.evidence
          c.settle_one.new.budget new c.settle_one.new.ends.items b) c.if-not-done.true c.in_ok-done.ensures.settles);
      counts = c.in_ok-done.ensures.counts ∙ h.0;
    }

pub loop-atom-preserved : goal.loop-atom-preserved
loop-atom-preserved g c =
    let h = c.loop-atom.invariant in
    let new = g.L.Tape.told c.settle_one.new.tape in (
      c.in_ok-done.ensures.counts ∙ h.0,
      all-more c.args.proves c.args.store.now c.loop-atom.store c.settle_one.new.store c.args.evidence.now
          c.loop-atom.evidence c.settle_one.new.evidence c.args.budget.now c.loop-atom.budget c.settle_one.new.budget
          (g.L.Tape.told c.args.tape.now) (g.L.Tape.told c.loop-atom.tape) new c.loop-atom.ends.items
          c.settle_one.new.ends.items h.1
          (subst (λ (b : Bool). Settles c.args.proves c.loop-atom.store c.loop-atom.evidence c.loop-atom.budget
          (g.L.Tape.told c.loop-atom.tape) c.loop-atom.ends.items c.settle_one.new.store c.settle_one.new.evidence
          c.settle_one.new.budget new c.settle_one.new.ends.items b) c.if-not-done.false c.in_ok-done.ensures.settles),
    )

pub returns : goal.returns
returns g c =
    let h = c.loop-atom.invariant in record { settles = h.1; counts = h.0 }

pub returns-in_err-done : goal.returns-in_err-done
returns-in_err-done g c =
    let r = c.from_residual in
    let p = err_from_is_err_and r.result r.ensures.1 in
    record {
      settles = IfOk-from_err r.result _ r.ensures.0;
      counts = subst (λ n. CountsTapeFault r.result n (g.L.Tape.faults c.settle_one.new.tape)) c.loop-atom.invariant.0
          (counts_on Bool r.result p.0 _ _ _ p.1 p.2 c.in_err-done.ensures.counts);
    }
