use Rattle.sb_clash.proofs.Words.{◌-◌, length, CanBeAsked, Explores, IsCore}
use Rattle.sb_clash.proofs.few.leave_out.Given as goal

abbrev pub invariant-loop-place : goal.invariant-loop-place
invariant-loop-place l = record {
  explores : Explores l.fn.arena l.arena l.fn.graph l.graph;
  can : CanBeAsked l.arena l.graph l.atoms l.serial.0 l.left.items;
  few : IsCore l.arena l.atoms l.literals l.left.items;
}

abbrev pub decreases-loop-place : goal.decreases-loop-place
decreases-loop-place l = length l.left.items - l.place
