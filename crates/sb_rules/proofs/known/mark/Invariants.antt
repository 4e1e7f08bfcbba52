use Rattle.std.proofs.Common.{◌≡◌, ◌≤◌, length, drop}
use Rattle.sb_rulebook.specs.Kept.{marked}
use Rattle.sb_rules.proofs.known.mark.Given as goal

abbrev pub invariant-loop-place : goal.invariant-loop-place
invariant-loop-place l = record {
  within : l.place ≤ length l.numbers;
  marks : l.marks.items ≡ marked (drop l.place l.numbers) l.fn.marks.items;
}

abbrev pub decreases-loop-place : goal.decreases-loop-place
decreases-loop-place l = l.place
