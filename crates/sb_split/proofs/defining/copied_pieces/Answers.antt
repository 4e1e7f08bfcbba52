use Rattle.sb_proof.specs.declared.atom.Piece as code
use Rattle.sb_split.proofs.Words.{List, map, sym, ap, ◌∙◌, arith, take_all, list_all, is_small_piece, piece_in}
use Rattle.sb_split.proofs.DefinedAtoms.{pieces_more}
use Rattle.sb_split.proofs.defining.copied_pieces.Goals as goal

pub loop-piece-preserved : goal.loop-piece-preserved
loop-piece-preserved c =
    let copied = c.in_ok-copied_piece.ensures in
    pieces_more c.args.pieces.now c.loop-piece.piece-index c.piece-item.result c.loop-piece.all.items
    c.push.new.self.items c.in_ok-copied_piece.field-0 c.loop-piece-test.true c.loop-piece.invariant
    (copied.0 ∙ ap piece_in c.piece-item.is)
    (ap (λ (p : code.Piece). is_small_piece (piece_in p)) (sym c.piece-item.is) ∙ copied.1) c.in_ok-push.ensures.ok

pub returns : goal.returns
returns c =
    let all = take_all c.loop-piece.piece-index c.args.pieces.now (omega (arith, c.loop-piece-test.false)) in (
      c.loop-piece.invariant.0 ∙ ap (map piece_in) all,
      ap (λ (ps : List code.Piece). list_all is_small_piece (map piece_in ps)) (sym all) ∙ c.loop-piece.invariant.1,
    )
