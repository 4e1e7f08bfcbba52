use Rattle.sb_members.proofs.Stronger.{IsGoing}
use Rattle.sb_members.proofs.needed.take_all.Given as goal

abbrev pub invariant-loop-row : goal.invariant-loop-row
invariant-loop-row l = IsGoing l.arena l.rows l.kept.items l.weaker.keys l.row-index
