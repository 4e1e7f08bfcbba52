use Rattle.std.proofs.Common.{◌≤◌, length, drop}
use Rattle.sb_rules.proofs.Loops.{Gathered}
use Rattle.sb_rules.proofs.known.KnownRegexes.members.Given as goal

abbrev pub invariant-loop-place : goal.invariant-loop-place
invariant-loop-place l = record {
  within : l.place ≤ length l.numbers;
  gathered : Gathered l.self.dead (drop l.place l.numbers) l.members.keys;
}

abbrev pub decreases-loop-place : goal.decreases-loop-place
decreases-loop-place l = l.place
