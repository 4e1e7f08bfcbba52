use Rattle.sb_theory.proofs.Words.{length, AreMembers, wanted_on}
use Rattle.sb_theory.proofs.Standing.{IsCutting}
use Rattle.sb_theory.proofs.member.cut.Given as goal

abbrev pub invariant-loop-taken : goal.invariant-loop-taken
invariant-loop-taken l = IsCutting l.level l.fn.taken.items l.taken.items
    × (AreMembers l.atoms l.fn.rows.items (wanted_on l.wanted l.fn.taken.items)
    → AreMembers l.atoms l.rows.items (wanted_on l.wanted l.taken.items))

abbrev pub decreases-loop-taken : goal.decreases-loop-taken
decreases-loop-taken l = length l.taken.items
