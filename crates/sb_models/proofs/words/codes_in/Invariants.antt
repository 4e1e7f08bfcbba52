use Rattle.std.proofs.Common.{◌≡◌, take}
use Rattle.sb_models.proofs.words.codes_in.Given as goal

abbrev pub invariant-loop-number : goal.invariant-loop-number
invariant-loop-number l = l.codes.items ≡ take l.number-index l.fn.numbers
