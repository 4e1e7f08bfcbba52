use Rattle.std.proofs.Common.{◌≡◌, ◌≤◌, drop}
use Rattle.sb_rules.specs.Pieces.{covers_from}
use Rattle.sb_rules.proofs.pieces.covers.Given as goal

abbrev pub invariant-loop-piece : goal.invariant-loop-piece
invariant-loop-piece l =
    (l.next ≤ 0x30000) × (covers_from l.next (drop l.piece-index l.pieces) ≡ covers_from 0 l.pieces)
