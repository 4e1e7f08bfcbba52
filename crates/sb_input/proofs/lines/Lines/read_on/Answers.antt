use Rattle.std.proofs.Common.{◌∙◌, ◌++◌, ℕ, List, take, ap, arith}
use Rattle.sb_input.specs.TakingLines.{LinesState}
use Rattle.sb_input.proofs.LineLemmas.{piece_read, piece_on}
use Rattle.sb_input.proofs.lines.Lines.read_on.Goals as goal

pub returns-clause-ok : goal.returns-clause-ok
returns-clause-ok g c =
    let l = c.self.inside in
    let same = c.self.view_is ∙ c.drop_taken.ensures in
    let count = c.in_ok-count.count in
    let piece = c.read_proof.new.piece.items in
    piece_on _ _ _ _ _ same
    (piece_read l.bytes.items piece c.extend_from_slice.new.self.items l.start l.line_start
    l.line_end l.line_start l.line_end l.ended l.read l.limit count _ _
    (c.in_ok-extend_from_slice.ensures.items
    ∙ ap (λ (xs : List ℕ). xs ++ take count c.deref.result.now) c.reserve.ensures.items
    ∙ ap (λ (xs : List ℕ). l.bytes.items ++ take count xs) c.deref.ensures.value)
    (ap (λ (s : LinesState). s.ended) same ∙ c.requires.goes_on)
    (omega (arith, c.self.invariant.within)) c.in_ok-count.ensures.fits
    (omega (arith, c.self.invariant.limited, c.in_ok-make_room.ensures.most, c.in_ok-count.ensures.within))
    c.in_ok-count.ensures.moved c.in_ok-count.ensures.bytes)
