use Rattle.std.proofs.Common.{length}
use Rattle.sb_clauses.specs.Records.{kept_of}
use Rattle.sb_clauses.specs.Sparing.{AreSpared}
use Rattle.sb_clauses.specs.Walking.{IsWalking, Advances}
use Rattle.sb_clauses.proofs.Moving.{list_at}
use Rattle.sb_clauses.proofs.walk.take_turns.Given as goal

abbrev pub invariant-loop-id : goal.invariant-loop-id
invariant-loop-id l = record {
  spared : AreSpared (kept_of l.records) l.spares.literals.items;
  walking : IsWalking l.list
      (record {
        kept = kept_of l.records;
        own = l.own.watched.items;
        other = l.other;
        all = l.own.lists;
        trail =
            l.trail;
      });
  advances : Advances (record {
    kept = kept_of l.records;
    own = l.initial.own.watched.items;
    other = l.other;
    all =
        l.initial.own.lists;
    trail = l.initial.trail;
  })
      (record {
        kept = kept_of l.records;
        own = l.own.watched.items;
        other = l.other;
        all = l.own.lists;
        trail =
            l.trail;
      });
}

abbrev pub decreases-loop-id : goal.decreases-loop-id
decreases-loop-id l = length (list_at l.own.lists.lists l.list)
