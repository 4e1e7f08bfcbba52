use Rattle.std.proofs.Common.{ℕ, List, not, ◌&&◌, sym, ap, ◌∙◌}
use Rattle.sb_proof.specs.declared.atom.Piece.{Piece}
use Rattle.sb_proof.specs.Lines.{piece_in}
use Rattle.sb_rules.specs.Stepping.{is_full, may_stand}
use Rattle.sb_rules.proofs.atoms.may_stand.Goals as goal

pub returns-in-Word : goal.returns-in-Word
returns-in-Word c =
    c.may_begin.ensures
    ∙ ap (λ (w : List ℕ). not c.args.behind && is_full w) c.as_slice.ensures.value
    ∙ ap (λ (p : Piece). may_stand c.args.behind (piece_in p)) (sym c.in-Word.is)
