use Rattle.std.proofs.Common.{take}
use Rattle.sb_lang.specs.Derivative.{nd_along}
use Rattle.sb_regex.specs.Numbered.{regex_at, Names, Extends}
use Rattle.sb_plain.specs.Memory.{LearntIsRight}
use Rattle.sb_plain.proofs.learnt.Learnt.along.Given as goal

abbrev pub invariant-loop-c : goal.invariant-loop-c
invariant-loop-c l = Names l.arena l.rest (nd_along (regex_at l.fn.arena l.fn.r) (take l.c-index l.codes))
    × Extends l.fn.arena l.arena
    × LearntIsRight l.arena l.self
