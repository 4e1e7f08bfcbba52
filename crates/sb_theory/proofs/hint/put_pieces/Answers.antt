use Rattle.sb_theory.proofs.Pieces.{piece_formed}
use Rattle.sb_theory.proofs.hint.put_pieces.Goals as goal

pub put_piece-requires : goal.put_piece-requires
put_piece-requires c =
    piece_formed c.args.pieces.now c.loop-piece.piece-index c.piece-item.result c.loop-piece-test.true c.piece-item.is
    c.requires
