use Rattle.std.proofs.Common.{length, ◌-◌}
use Rattle.sb_word.proofs.FrontLemmas.{HasNoBrace}
use Rattle.sb_word.proofs.escape.near_brace.Given as goal

abbrev pub invariant-loop-place : goal.invariant-loop-place
invariant-loop-place l = HasNoBrace l.bytes l.place

abbrev pub decreases-loop-place : goal.decreases-loop-place
decreases-loop-place l = length l.bytes - l.place
