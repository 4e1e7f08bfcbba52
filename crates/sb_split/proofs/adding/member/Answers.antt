use Rattle.sb_split.proofs.Words.{Names, in_atom, map, piece_in, subst, sym}
use Rattle.sb_split.proofs.OnlyFacts.{of_member}
use Rattle.sb_split.proofs.AddedFacts.{adds_member}
use Rattle.sb_split.proofs.adding.member.Goals as goal

pub returns-in_err-id-clause-adds : goal.returns-in_err-id-clause-adds
returns-in_err-id-clause-adds c = λ rs low h.
    adds_member rs c.args.atoms.now c.add.new.self (map piece_in c.args.pieces.items) c.args.regex c.add.ensures.grows
    c.requires low h

pub returns-clause-adds : goal.returns-clause-adds
returns-clause-adds c = λ rs low h.
    adds_member rs c.args.atoms.now c.add.new.self (map piece_in c.args.pieces.items) c.args.regex c.add.ensures.grows
    c.requires low h

pub returns-clause-only : goal.returns-clause-only
returns-clause-only c =
    of_member c.args.atoms.now c.add.new.self (in_atom (map piece_in c.args.pieces.items) c.args.regex) _
    c.add.ensures.grows c.atoms_each_once.ensures
    (subst (λ n. Names c.add.new.self n (in_atom (map piece_in c.args.pieces.items) c.args.regex))
    (sym c.number.ensures)
    c.in_ok-id.ensures.ok)
