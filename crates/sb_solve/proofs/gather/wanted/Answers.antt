use Rattle.sb_solve.proofs.Words.{◌∙◌, nat_eq, ap, insert_all, atoms_of}
use Rattle.sb_solve.proofs.Gathered.{are_wanted, are_known_atoms}
use Rattle.sb_solve.proofs.gather.wanted.Goals as goal

pub returns-clause-wanted : goal.returns-clause-wanted
returns-clause-wanted c =
    are_wanted c.args.atoms.now c.args.literals.now c.add_all.new.found.keys c.close.new.found.keys
    (c.in_ok-add_all.ensures
    ∙ ap (λ ks. insert_all nat_eq ks (atoms_of c.args.literals.now)) c.new-found.ensures.empty) c.in_ok-close.ensures
    c.as_slice-each_once.ensures.unique

pub returns-clause-known : goal.returns-clause-known
returns-clause-known c = λ rs table known.
    are_known_atoms rs c.args.atoms.now c.args.literals.now c.close.new.found.keys (returns-clause-wanted c).least
    table known
