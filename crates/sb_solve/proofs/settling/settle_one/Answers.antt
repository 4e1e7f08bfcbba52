use Rattle.sb_word.specs.Words.{IsWord}
use Rattle.sb_refute.specs.Settling.{IsBare, pieces_of_word}
use Rattle.sb_refute.specs.declared.bare.Bare.{Bare}
use Rattle.sb_solve.proofs.Words.{ℕ, List, Option, refl, subst, sym, IfOk-from_err, Names, counts_none, err_from_is_err_and, in_atom}
use Rattle.sb_solve.proofs.Goings.{bare-named, other-settled}
use Rattle.sb_solve.proofs.settling.settle_one.Goals as goal

pub bare-requires : goal.bare-requires
bare-requires g c = c.requires.known

pub returns-in_default : goal.returns-in_default
returns-in_default g c = record {
  settles = other-settled c.args.proves c.args.store.now c.args.evidence.now c.args.budget.now
      (g.L.Tape.told c.args.tape.now) c.args.ends.now.items c.requires.regexes;
  counts = refl;
}

pub settle_bare-requires : goal.settle_bare-requires
settle_bare-requires g c =
    let atoms = c.args.evidence.now.atoms in
    let it = c.in-Some.bare in
    let named = bare-named atoms c.args.atom it
    (subst (λ (o : Option Bare). IsBare atoms c.args.atom o) c.in-Some.is c.in_ok-found.ensures) in
    record {
      names = subst (λ (w : List ℕ). Names atoms c.args.atom (in_atom (pieces_of_word w) it.regex))
          (sym c.as_slice.ensures.value) named.0;
      word = subst IsWord (sym c.as_slice.ensures.value) named.1;
      store = c.requires.store;
      regexes = c.requires.regexes;
    }

pub returns : goal.returns
returns g c = record { settles = c.settle_bare.ensures.settles; counts = c.settle_bare.ensures.counts }

pub returns-in_err-found : goal.returns-in_err-found
returns-in_err-found g c =
    let r = c.from_residual in
    let p = err_from_is_err_and r.result r.ensures.1 in
    record { settles = IfOk-from_err r.result _ r.ensures.0; counts = counts_none r.result p.0 _ p.1 p.2 }
