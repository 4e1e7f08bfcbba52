use Rattle.sb_refute.proofs.Words.{◌≡◌, take}
use Rattle.sb_refute.proofs.evidence.enlarged.Given as goal

abbrev pub invariant-loop-literal : goal.invariant-loop-literal
invariant-loop-literal l = l.all.items ≡ take l.literal-index l.literals
