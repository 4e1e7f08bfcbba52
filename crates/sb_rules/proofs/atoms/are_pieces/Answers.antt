use Rattle.std.proofs.Common.{map}
use Rattle.sb_proof.specs.Lines.{piece_in}
use Rattle.sb_rules.proofs.Standing.{pieces_follow, follow_stops, follow_more, follow_ends}
use Rattle.sb_rules.proofs.atoms.are_pieces.Goals as goal

pub loop-piece-init : goal.loop-piece-init
loop-piece-init c = pieces_follow (map piece_in c.args.pieces.now)

pub returns-then-not-may_stand : goal.returns-then-not-may_stand
returns-then-not-may_stand c =
    follow_stops c.args.pieces.now c.loop-piece.piece-index c.piece-item.result c.loop-piece.behind c.may_stand.result
    c.loop-piece-test.true c.piece-item.is c.loop-piece.invariant c.may_stand.ensures c.if-not-may_stand.true

pub loop-piece-preserved : goal.loop-piece-preserved
loop-piece-preserved c =
    follow_more c.args.pieces.now c.loop-piece.piece-index c.piece-item.result c.loop-piece.behind c.may_stand.result
    c.loop-piece-test.true c.piece-item.is c.loop-piece.invariant c.may_stand.ensures c.is_word-behind.result
    c.if-not-may_stand.false c.is_word-behind.ensures

pub returns : goal.returns
returns c =
    follow_ends c.args.pieces.now c.loop-piece.piece-index c.loop-piece.behind c.loop-piece-test.false
    c.loop-piece.invariant
