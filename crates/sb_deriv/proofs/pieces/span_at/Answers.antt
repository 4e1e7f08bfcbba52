use Rattle.sb_deriv.proofs.PieceFacts.{span_of}
use Rattle.sb_deriv.proofs.pieces.span_at.Goals as goal

pub returns : goal.returns
returns c =
    span_of c.args.pieces.now c.args.c c.place_of-place.result c.first_from.result c.index-pieces-place.result
    c.requires.map c.requires.character c.place_of-place.ensures.within c.place_of-place.ensures.begins
    c.place_of-place.ensures.ends c.first_from.ensures
