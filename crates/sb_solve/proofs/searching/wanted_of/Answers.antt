use Rattle.sb_solve.proofs.Words.{ℕ, List, sym, subst, IfOk-from_err, AreAmong, AreWanted}
use Rattle.sb_solve.proofs.searching.wanted_of.Goals as goal

pub returns-in_err-found : goal.returns-in_err-found
returns-in_err-found c =
    let x = c.from_residual in
    record {
      wanted = IfOk-from_err x.result _ x.ensures.0;
      among = IfOk-from_err x.result _ x.ensures.0;
    }

pub returns : goal.returns
returns c =
    let table = c.args.atoms.now in
    record {
      wanted = subst (λ (ns : List ℕ). AreWanted table c.args.literals.now ns) (sym c.of.ensures)
          c.in_ok-found.ensures.wanted;
      among = subst (λ (ns : List ℕ). AreAmong table c.args.literals.now ns) (sym c.of.ensures)
          c.in_ok-found.ensures.known;
    }
