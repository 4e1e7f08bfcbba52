use Rattle.std.proofs.Common.{length}
use Rattle.sb_regex.proofs.arena.Arena.+sort.Given as goal

abbrev pub decreases-sort : goal.decreases-sort
decreases-sort l = length l.ids.now
