use Rattle.std.proofs.Common.{◌≡◌, ◌++◌, drop}
use Rattle.sb_rules.specs.Pieces.{pieces_to}
use Rattle.sb_rules.proofs.pieces.add_all.Given as goal

abbrev pub invariant-loop-range : goal.invariant-loop-range
invariant-loop-range l =
    l.pieces.items ++ pieces_to l.target (drop l.range-index l.ranges)
    ≡ l.initial.pieces.items ++ pieces_to l.target l.ranges
