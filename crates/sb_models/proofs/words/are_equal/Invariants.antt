use Rattle.std.proofs.Common.{◌≡◌, take}
use Rattle.sb_models.proofs.words.are_equal.Given as goal

abbrev pub invariant-loop-place : goal.invariant-loop-place
invariant-loop-place l = take l.place l.fn.codes ≡ take l.place l.fn.numbers
