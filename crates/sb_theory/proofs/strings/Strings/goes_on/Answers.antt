use Rattle.sb_theory.proofs.Words.{◌∙◌, List, ap, arith, length, ℕ, IfOk-from_err, IfOk-weaker, Lit, number_at, row_at, true≢false}
use Rattle.sb_theory.proofs.Moving.{looks_both, rows_stay}
use Rattle.sb_theory.proofs.strings.Strings.goes_on.Goals as goal

pub fits_next-requires : goal.fits_next-requires
fits_next-requires c =
    record { holds = c.requires.holds; more = omega (arith, c.requires.next); within = c.requires.within }

pub returns-in_err-fits_next : goal.returns-in_err-fits_next
returns-in_err-fits_next c =
    let r = c.from_residual in
    record { ok = IfOk-from_err r.result _ r.ensures.0; looks = c.in_err-fits_next.ensures.looks }

pub returns-then-branch : goal.returns-then-branch
returns-then-branch c =
    let h = c.in_ok-fits_next.ensures in
    record {
      ok = record {
        holds = h.ok.holds;
        fits = λ found. h.ok.fits c.if-branch.true ∙ c.requires.next;
        clash = λ none. absurd (true≢false none);
        rises = h.ok.rises;
      };
      looks = h.looks;
    }

pub ask-requires : goal.ask-requires
ask-requires c =
    let h = c.in_ok-fits_next.ensures in
    record {
      holds = h.ok.holds;
      more = omega (
        arith,
        c.requires.next,
        ap (λ (ns : List ℕ). number_at ns c.args.serial.0) (h.ok.stays c.if-branch.false),
      );
      within = omega (
        arith,
        c.requires.within,
        ap (λ (rows : List (List Lit)). length (row_at rows c.args.serial.0)) (rows_stay h.looks),
      );
    }

pub returns : goal.returns
returns c =
    let h = c.in_ok-fits_next.ensures in
    record {
      ok = IfOk-weaker c.ask.result _ _
          (λ found a. record {
            holds = a.holds;
            fits = a.fits;
            clash = a.clash;
            rises = λ y. omega (arith, h.ok.rises y, a.rises y);
          }) c.ask.ensures.ok;
      looks = looks_both h.looks c.ask.ensures.looks;
    }
