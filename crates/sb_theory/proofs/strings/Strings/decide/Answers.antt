use Rattle.sb_theory.proofs.Words.{◌∙◌, List, ap, refl, sym, ℕ, IfOk-from_err, is_wanted}
use Rattle.sb_theory.proofs.Moving.{holds_kept, keeps_grown, keeps_none}
use Rattle.sb_theory.proofs.Verdicts.{listed_wish}
use Rattle.sb_theory.proofs.strings.Strings.decide.Goals as goal

pub returns-in_default : goal.returns-in_default
returns-in_default c = record { ok = tt; rows = refl; noted = refl; keeps = keeps_none c.requires }

pub fits-requires : goal.fits-requires
fits-requires c =
    record { regexes = c.requires.regexes; formed = c.requires.formed; store = c.requires.store }

pub returns-in_err-positive : goal.returns-in_err-positive
returns-in_err-positive c =
    let r = c.from_residual in
    record {
      ok = IfOk-from_err r.result _ r.ensures.0;
      rows = refl;
      noted = refl;
      keeps = keeps_grown c.requires c.in_err-positive.ensures.grows refl refl;
    }

pub returns : goal.returns
returns c =
    let grows = c.in_ok-positive.ensures.grows in
    let y = record c.args.self.now { store = c.fits.new.store } in
    record {
      ok = listed_wish y c.args.trail.now.literals c.in-Some.atom (holds_kept grows refl c.requires)
          (ap (λ (ns : List ℕ). is_wanted ns c.in-Some.atom) (sym c.deref.ensures.value) ∙ c.in-Some.ensures.listed)
          c.in-Some.ensures.unset;
      rows = refl;
      noted = refl;
      keeps = keeps_grown c.requires grows refl refl;
    }
