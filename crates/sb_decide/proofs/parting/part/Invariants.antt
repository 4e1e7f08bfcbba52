use Rattle.sb_decide.proofs.Words.{take, IsParted}
use Rattle.sb_decide.proofs.parting.part.Given as goal

abbrev pub invariant-loop-serial : goal.invariant-loop-serial
invariant-loop-serial l = IsParted (take l.serial-index l.all) l.spoken.keys l.changed.items l.left.items
