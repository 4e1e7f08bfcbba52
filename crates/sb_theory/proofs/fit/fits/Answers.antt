use Rattle.sb_theory.proofs.Words.{◌∙◌, ap, sym, IfOk-from_err, IfOk-weaker, fits_subject}
use Rattle.sb_theory.proofs.Fitting.{true_by_word}
use Rattle.sb_theory.proofs.fit.fits.Goals as goal

pub fits_pieces-requires : goal.fits_pieces-requires
fits_pieces-requires c =
    record { regexes = c.requires.regexes; formed = c.requires.formed; store = c.requires.store }

pub returns-in_default : goal.returns-in_default
returns-in_default c = record {
  fits = IfOk-weaker c.fits_pieces.result _ _
      (λ b is. is
      ∙ sym (ap (fits_subject c.args.store.now.arena c.args.atoms.now c.args.words.now c.args.literal)
      c.in_default.ensures.none)) c.fits_pieces.ensures.fits;
  grows = c.fits_pieces.ensures.grows;
}

pub contains-requires : goal.contains-requires
contains-requires c = record {
  known = c.requires.regexes c.args.literal.atom _ c.in-Some.ensures.some;
  store = c.requires.store;
}

pub returns-in_err-is_in : goal.returns-in_err-is_in
returns-in_err-is_in c =
    let x = c.from_residual in
    record { fits = IfOk-from_err x.result _ x.ensures.0; grows = c.in_err-is_in.ensures.grows }

pub returns : goal.returns
returns c = record {
  fits = true_by_word c.args.store.now.arena c.args.atoms.now c.args.words.now c.args.literal c.in-Some.member.serial.0
      c.in-Some.member.regex c.in_ok-is_in.is_in c.in-Some.ensures.some c.in_ok-is_in.ensures.ok;
  grows = c.in_ok-is_in.ensures.grows;
}
