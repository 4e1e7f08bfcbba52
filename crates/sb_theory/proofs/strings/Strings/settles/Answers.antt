use Rattle.sb_theory.proofs.Words.{◌∙◌, List, ap, arith, length, sym, ℕ, IfOk-from_err, IfOk-weaker, Lit, number_at, row_at, true≢false}
use Rattle.sb_theory.proofs.Moving.{looks_both, looks_none, rows_stay, settled_by}
use Rattle.sb_theory.proofs.strings.Strings.settles.Goals as goal

pub loop-serial-init : goal.loop-serial-init
loop-serial-init c = record { holds = c.requires; looks = looks_none c.requires; rises = λ y. omega arith }

pub fits_next-requires : goal.fits_next-requires
fits_next-requires c =
    let before = c.loop-serial.invariant in
    let n = c.args.serial.0 in
    let row = ap length (c.row_of-long.ensures
    ∙ ap (λ (rows : List (List Lit)). row_at rows n) (c.deref.ensures.value ∙ sym (rows_stay before.looks))) in
    record {
      holds = before.holds;
      more = omega (
        arith,
        c.loop-serial-test.true,
        c.number_of.ensures ∙ ap (λ (ns : List ℕ). number_at ns n) c.deref-in-loop-serial.ensures.value,
      );
      within = omega (arith, row);
    }

pub loop-serial-preserved : goal.loop-serial-preserved
loop-serial-preserved c =
    let before = c.loop-serial.invariant in
    let h = c.in_ok-fits_next.ensures in
    record {
      holds = h.ok.holds;
      looks = looks_both before.looks h.looks;
      rises = λ y. omega (arith, before.rises y, h.ok.rises y);
    }

pub loop-serial-smaller : goal.loop-serial-smaller
loop-serial-smaller c =
    omega (
      arith,
      c.in_ok-fits_next.ensures.ok.fits c.if-not-branch.false,
      c.loop-serial-test.true,
      c.number_of.ensures ∙ ap (λ (ns : List ℕ). number_at ns c.args.serial.0) c.deref-in-loop-serial.ensures.value,
    )

pub returns-in_err-fits_next : goal.returns-in_err-fits_next
returns-in_err-fits_next c =
    let r = c.from_residual in
    record {
      ok = IfOk-from_err r.result _ r.ensures.0;
      looks = looks_both c.loop-serial.invariant.looks c.in_err-fits_next.ensures.looks;
    }

pub ask-requires : goal.ask-requires
ask-requires c =
    let before = c.loop-serial.invariant in
    let h = c.in_ok-fits_next.ensures in
    let n = c.args.serial.0 in
    record {
      holds = h.ok.holds;
      more = omega (
        arith,
        c.loop-serial-test.true,
        c.number_of.ensures ∙ ap (λ (ns : List ℕ). number_at ns n) c.deref-in-loop-serial.ensures.value,
        ap (λ (ns : List ℕ). number_at ns n) (h.ok.stays c.if-not-branch.true),
      );
      within = omega (
        arith,
        ap length (c.row_of-long.ensures
            ∙ ap (λ (rows : List (List Lit)). row_at rows n)
            (c.deref.ensures.value ∙ sym (rows_stay (looks_both before.looks h.looks)))),
      );
    }

pub returns-then-not-branch : goal.returns-then-not-branch
returns-then-not-branch c =
    let before = c.loop-serial.invariant in
    let h = c.in_ok-fits_next.ensures in
    let looks = looks_both (looks_both before.looks h.looks) c.ask.ensures.looks in
    record {
      ok = IfOk-weaker c.ask.result _ _
          (λ found a.
          let s = settled_by found a (c.row_of-long.ensures ∙ ap (λ (rows : List (List Lit)). row_at rows
          c.args.serial.0)
          (c.deref.ensures.value ∙ sym (rows_stay looks))) in
          record {
            holds = s.holds;
            whole = s.whole;
            clash = s.clash;
            rises = λ y. omega (arith, before.rises y, h.ok.rises y, s.rises y);
          }) c.ask.ensures.ok;
      looks = looks;
    }

pub returns : goal.returns
returns c =
    let before = c.loop-serial.invariant in
    let n = c.args.serial.0 in
    record {
      ok = record {
        holds = before.holds;
        whole = λ found. omega (
          arith,
          c.loop-serial-test.false,
          c.number_of.ensures ∙ ap (λ (ns : List ℕ). number_at ns n) c.deref-in-loop-serial.ensures.value,
          ap length (c.row_of-long.ensures
              ∙ ap (λ (rows : List (List Lit)). row_at rows n) (c.deref.ensures.value ∙ sym (rows_stay before.looks))),
        );
        clash = λ none. absurd (true≢false none);
        rises = before.rises;
      };
      looks = before.looks;
    }
