use Rattle.sb_theory.proofs.Words.{◌∙◌, ap, inl, inr, refl, sym, IfOk-from_err, is_true_by}
use Rattle.sb_theory.proofs.Moving.{keeps_grown, keeps_none}
use Rattle.sb_theory.proofs.Verdicts.{not_wrong, wrong_by_fit}
use Rattle.sb_theory.proofs.strings.Strings.is_wrong.Goals as goal

pub returns-then-not-contains : goal.returns-then-not-contains
returns-then-not-contains c = record {
  ok = not_wrong c.args.self.now c.args.literal (inl (sym c.contains.ensures ∙ c.if-not-contains.true));
  rows = refl;
  noted = refl;
  keeps = keeps_none c.requires;
}

pub returns-then-not-is_joined : goal.returns-then-not-is_joined
returns-then-not-is_joined c = record {
  ok = not_wrong c.args.self.now c.args.literal (inr (sym c.is_joined.ensures ∙ c.if-not-is_joined.true));
  rows = refl;
  noted = refl;
  keeps = keeps_none c.requires;
}

pub fits-requires : goal.fits-requires
fits-requires c =
    record { regexes = c.requires.regexes; formed = c.requires.formed; store = c.requires.store }

pub returns-in_err-fits : goal.returns-in_err-fits
returns-in_err-fits c =
    let r = c.from_residual in
    record {
      ok = IfOk-from_err r.result _ r.ensures.0;
      rows = refl;
      noted = refl;
      keeps = keeps_grown c.requires c.in_err-fits.ensures.grows refl refl;
    }

pub returns : goal.returns
returns c =
    let x = c.args.self.now in
    let e = c.in_ok-fits.ensures in
    let keeps = keeps_grown c.requires e.grows refl refl in
    record {
      ok = wrong_by_fit c.args.literal c.in_ok-fits.fits c.requires keeps refl refl
          (sym c.contains.ensures ∙ c.if-not-contains.false) (sym c.is_joined.ensures ∙ c.if-not-is_joined.false)
          (e.fits ∙ ap (λ ws. is_true_by x.store.arena x.atoms ws c.args.literal) c.deref.ensures.value);
      rows = refl;
      noted = refl;
      keeps = keeps;
    }
