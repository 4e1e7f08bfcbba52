use Rattle.std.proofs.Common.{drop, slice_get}
use Rattle.sb_rules.proofs.Loops.{Found}
use Rattle.sb_rules.proofs.known.KnownRegexes.regexes.Given as goal

abbrev pub invariant-loop-number : goal.invariant-loop-number
invariant-loop-number l = Found (slice_get l.self.order) l.numbers l.ids.items (drop l.number-index l.numbers)
