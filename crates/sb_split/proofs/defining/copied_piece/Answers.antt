use Rattle.sb_proof.specs.declared.atom.Piece as code
use Rattle.sb_split.proofs.Words.{sym, ap, ◌∙◌, IfOk-from_err, are_small, constant_piece, is_small_piece, word_piece, piece_in}
use Rattle.sb_split.proofs.defining.copied_piece.Goals as goal

pub returns-in-Constant : goal.returns-in-Constant
returns-in-Constant c = (
  ap constant_piece c.small.ensures.same ∙ ap piece_in (sym c.in-Constant.is),
  ap (λ (p : code.Piece). is_small_piece (piece_in p)) c.in-Constant.is ∙ c.small.ensures.small,
)

pub returns-in_ok-all-in-Word : goal.returns-in_ok-all-in-Word
returns-in_ok-all-in-Word c =
    let all = c.in_ok-all-in-Word.ensures in
    let characters = c.as_slice.ensures.value in (
      ap word_piece (all.0 ∙ characters) ∙ ap piece_in (sym c.in-Word.is),
      ap (λ (p : code.Piece). is_small_piece (piece_in p)) c.in-Word.is ∙ ap are_small (sym characters) ∙ all.1,
    )

pub returns-in_err-all-in-Word : goal.returns-in_err-all-in-Word
returns-in_err-all-in-Word c = IfOk-from_err c.from_residual.result _ c.from_residual.ensures.0
