use Rattle.std.proofs.Common.{length, ◌-◌}
use Rattle.sb_word.proofs.FrontLemmas.{HasRead}
use Rattle.sb_word.proofs.read.read_word.Given as goal

abbrev pub invariant-loop-place : goal.invariant-loop-place
invariant-loop-place l = HasRead l.bytes l.codes.items l.place

abbrev pub decreases-loop-place : goal.decreases-loop-place
decreases-loop-place l = length l.bytes - l.place
