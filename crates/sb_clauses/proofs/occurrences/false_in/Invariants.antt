use Rattle.std.proofs.Common.{length}
use Rattle.std.specs.HashSet.{contains}
use Rattle.sb_clauses.specs.Records.{kept_of}
use Rattle.sb_clauses.specs.Occurring.{are_equal, IsIn, AreOlder, steps_of}
use Rattle.sb_clauses.proofs.occurrences.false_in.Given as goal

abbrev pub invariant-loop-next : goal.invariant-loop-next
invariant-loop-next l = record {
  inside : IsIn l.nodes (length (kept_of l.records)) l.fn.list l.next;
  older : AreOlder (kept_of l.records) l.nodes (contains are_equal l.all) l.fn.list l.next;
}

abbrev pub decreases-loop-next : goal.decreases-loop-next
decreases-loop-next l = steps_of l.next
