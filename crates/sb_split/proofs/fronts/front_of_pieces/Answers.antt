use Rattle.sb_split.proofs.Words.{◌≡◌, map, subst, sym, true, IfOk, IsFrontOf, are_pieces, in_atom, piece_in}
use Rattle.sb_split.proofs.FrontFacts.{no_pieces, parted}
use Rattle.sb_split.proofs.fronts.front_of_pieces.Goals as goal

pub returns-in_default : goal.returns-in_default
returns-in_default c = no_pieces c.args.pieces.now c.args.regex c.in_default.len_below

pub front_before-requires : goal.front_before-requires
front_before-requires c =
    subst (λ ps. are_pieces (map piece_in ps) ≡ true)
    (parted c.args.pieces.now c.first-item.result c.in-len1-up.len_at_least c.first-item.is) c.requires

pub returns : goal.returns
returns c =
    subst (λ ps. IfOk c.front_before.result (IsFrontOf (in_atom (map piece_in ps) c.args.regex)))
    (sym (parted c.args.pieces.now c.first-item.result c.in-len1-up.len_at_least c.first-item.is))
    c.front_before.ensures
