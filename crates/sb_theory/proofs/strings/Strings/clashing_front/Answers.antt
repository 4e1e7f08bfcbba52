use Rattle.sb_theory.proofs.Words.{◌∙◌, List, ap, arith, length, subst, sym, ℕ, AreClashing, IfOk-from_err, Lit, number_at, row_at, take_all}
use Rattle.sb_theory.proofs.Moving.{clash_looked, looks_both, looks_none, rows_stay}
use Rattle.sb_theory.proofs.strings.Strings.clashing_front.Goals as goal

pub loop-long-init : goal.loop-long-init
loop-long-init c = record {
  holds = c.requires.holds;
  looks = looks_none c.requires.holds;
  fits = sym (c.number_of-long.ensures ∙ ap (λ (ns : List ℕ). number_at ns c.args.serial.0) c.deref-2.ensures.value);
}

pub goes_on-requires : goal.goes_on-requires
goes_on-requires c =
    let before = c.loop-long.invariant in
    let whole = ap length (c.row_of-whole.ensures
    ∙ ap (λ (rows : List (List Lit)). row_at rows c.args.serial.0) (c.deref.ensures.value ∙ sym (rows_stay before.looks)))
    in
    record {
      holds = before.holds;
      next = omega (arith, before.fits);
      within = omega (arith, c.loop-long-test.true, whole);
    }

pub loop-long-preserved : goal.loop-long-preserved
loop-long-preserved c =
    let h = c.in_ok-goes_on.ensures in
    record {
      holds = h.ok.holds;
      looks = looks_both c.loop-long.invariant.looks h.looks;
      fits = h.ok.fits c.if-not-branch.false;
    }

pub returns-in_err-goes_on : goal.returns-in_err-goes_on
returns-in_err-goes_on c =
    let r = c.from_residual in
    record {
      front = IfOk-from_err r.result _ r.ensures.0;
      looks = looks_both c.loop-long.invariant.looks c.in_err-goes_on.ensures.looks;
    }

pub returns-then-not-branch : goal.returns-then-not-branch
returns-then-not-branch c =
    let h = c.in_ok-goes_on.ensures in
    let looks = looks_both c.loop-long.invariant.looks h.looks in
    let whole = ap length (c.row_of-whole.ensures ∙ ap (λ (rows : List (List Lit)). row_at rows c.args.serial.0)
    (c.deref.ensures.value ∙ sym (rows_stay looks))) in
    record {
      front = record {
        holds = h.ok.holds;
        within = omega (arith, c.loop-long-test.true, whole);
        clash = h.ok.clash c.if-not-branch.true;
      };
      looks = looks;
    }

pub returns : goal.returns
returns c =
    let y = c.loop-long.self in
    let n = c.args.serial.0 in
    let before = c.loop-long.invariant in
    let whole = ap length (c.row_of-whole.ensures
    ∙ ap (λ (rows : List (List Lit)). row_at rows n) (c.deref.ensures.value ∙ sym (rows_stay before.looks))) in
    record {
      front = record {
        holds = before.holds;
        within = omega (arith, whole);
        clash = subst (λ (ls : List Lit). AreClashing y.store.arena y.atoms ls)
            (sym (take_all (length c.row_of-whole.result.now) (row_at y.members.items n) (omega (arith, whole))))
            (clash_looked n c.requires.holds before.looks c.requires.clash);
      };
      looks = before.looks;
    }
