use Rattle.sb_members.proofs.Stronger.{AreFronts}
use Rattle.sb_members.proofs.needed.longest_fronts.Given as goal

abbrev pub invariant-loop-i : goal.invariant-loop-i
invariant-loop-i l = AreFronts l.arena l.parts l.kept.items l.i
