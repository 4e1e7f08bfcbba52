use Rattle.std.proofs.Common.{◌≡◌, ◌-◌, ◌++◌, drop, length}
use Rattle.sb_rules.specs.Pieces.{ranged_at, pieces_in, are_canonical}
use Rattle.sb_rules.proofs.pieces.pieces_of.Given as goal

abbrev pub invariant-loop-place : goal.invariant-loop-place
invariant-loop-place l = record {
  canonical : are_canonical (drop l.place (ranged_at l.classes l.targets))
      ≡ are_canonical (ranged_at l.classes l.targets);
  gathered : l.pieces.items ++ pieces_in (drop l.place (ranged_at l.classes l.targets))
      ≡ pieces_in (ranged_at l.classes l.targets);
}

abbrev pub decreases-loop-place : goal.decreases-loop-place
decreases-loop-place l = length l.classes - l.place
