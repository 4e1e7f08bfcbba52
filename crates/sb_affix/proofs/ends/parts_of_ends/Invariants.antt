use Rattle.sb_affix.proofs.EndFacts.{AreMade}
use Rattle.sb_affix.proofs.ends.parts_of_ends.Given as goal

abbrev pub invariant-loop-left : goal.invariant-loop-left
invariant-loop-left l = AreMade l.fn.part l.fn.codes l.left l.fn.arena l.arena l.last l.ends.items

abbrev pub decreases-loop-left : goal.decreases-loop-left
decreases-loop-left l = l.left
