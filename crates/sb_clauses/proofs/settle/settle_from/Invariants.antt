use Rattle.std.proofs.Common.{◌-◌, take}
use Rattle.sb_trail.specs.Assignments.{held}
use Rattle.sb_clauses.specs.Records.{kept_of}
use Rattle.sb_clauses.specs.Watching.{AreWatched}
use Rattle.sb_clauses.specs.Sparing.{AreSpared}
use Rattle.sb_clauses.specs.Settling.{AreFine, Settles}
use Rattle.sb_clauses.proofs.settle.settle_from.Given as goal

abbrev pub invariant-loop-literal : goal.invariant-loop-literal
invariant-loop-literal l = record {
  watched : AreWatched (kept_of l.records) l.first.watched.items l.first.lists l.second.watched.items l.second.lists;
  spared : AreSpared (kept_of l.records) l.spares.literals.items;
  settles : Settles (kept_of l.records) l.initial.first.watched.items l.initial.second.watched.items l.first.watched.items
      l.second.watched.items l.initial.trail l.trail;
  fine : AreFine (kept_of l.records) (take l.head (held l.trail.literals)) (held l.trail.literals)
      l.first.watched.items l.second.watched.items;
}

abbrev pub decreases-loop-literal : goal.decreases-loop-literal
decreases-loop-literal l = l.trail.reserved - l.head
