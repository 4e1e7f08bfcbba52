use Rattle.std.proofs.Common.{arith}
use Rattle.sb_trace.proofs.PiecePairs.{stands_next}
use Rattle.sb_trace.proofs.trace.within.place_at.Goals as goal

pub returns-then-end_at-character : goal.returns-then-end_at-character
returns-then-end_at-character c = λ before stands later low most.
    stands_next c.args.pieces.now c.args.place c.args.character c.requires.map low most
    (omega (arith, c.if-end_at-character.true, c.end_at.ensures))
