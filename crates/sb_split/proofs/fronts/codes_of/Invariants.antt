use Rattle.std.proofs.Common.{◌≡◌, take}
use Rattle.sb_split.proofs.fronts.codes_of.Given as goal

abbrev pub invariant-loop-number : goal.invariant-loop-number
invariant-loop-number l = l.codes.items ≡ take l.number-index l.word
