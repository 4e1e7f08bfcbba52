use Rattle.sb_solve.proofs.Words.{ap, ◌∙◌, IfOk-from_err, counts_none, err_from_is_err_and, is_atom, list_all}
use Rattle.sb_solve.proofs.Goings.{numbers-known}
use Rattle.sb_solve.proofs.settling.settle.Goals as goal

pub settle_all-requires : goal.settle_all-requires
settle_all-requires g c =
    let atoms = c.args.evidence.now.atoms in
    record {
      known = ap (list_all (is_atom atoms)) c.as_slice.ensures.keys
          ∙ numbers-known atoms c.atoms.result.now c.args.literals.now c.in_ok-asked.asked.keys c.atoms.ensures
          c.stands.ensures.earlier c.requires.known c.in_ok-asked.ensures.known;
      store = c.requires.store;
      regexes = c.requires.regexes;
    }

pub returns : goal.returns
returns g c = record { settles = c.settle_all.ensures.settles; counts = c.settle_all.ensures.counts }

pub returns-in_err-asked : goal.returns-in_err-asked
returns-in_err-asked g c =
    let r = c.from_residual in
    let p = err_from_is_err_and r.result r.ensures.1 in
    record { settles = IfOk-from_err r.result _ r.ensures.0; counts = counts_none r.result p.0 _ p.1 p.2 }
