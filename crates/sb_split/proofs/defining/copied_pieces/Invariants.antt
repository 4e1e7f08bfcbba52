use Rattle.sb_split.proofs.Words.{◌≡◌, true, map, take, list_all, is_small_piece, piece_in}
use Rattle.sb_split.proofs.defining.copied_pieces.Given as goal

abbrev pub invariant-loop-piece : goal.invariant-loop-piece
invariant-loop-piece l = (map piece_in l.all.items ≡ map piece_in (take l.piece-index l.pieces))
    × (list_all is_small_piece (map piece_in (take l.piece-index l.pieces)) ≡ true)
