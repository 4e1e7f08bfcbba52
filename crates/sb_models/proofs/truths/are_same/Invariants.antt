use Rattle.std.proofs.Common.{◌≡◌, take}
use Rattle.sb_models.proofs.truths.are_same.Given as goal

abbrev pub invariant-loop-place : goal.invariant-loop-place
invariant-loop-place l = take l.place l.fn.one ≡ take l.place l.fn.other
