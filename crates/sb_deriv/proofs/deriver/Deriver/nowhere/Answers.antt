use Rattle.sb_deriv.proofs.Derivatives.{one_piece, one_map}
use Rattle.sb_deriv.proofs.deriver.Deriver.nowhere.Goals as goal

pub new-requires : goal.new-requires
new-requires c = one_piece c.args.constants.now.none c.in_ok-pieces.pieces.items c.in_ok-pieces.ensures.items

pub returns : goal.returns
returns c = record {
  found =
      one_map c.args.arena.now c.args.constants.now.none c.in_ok-pieces.pieces.items c.new.result c.new.ensures
      c.in_ok-pieces.ensures.items c.requires.constants.none_is;
}
