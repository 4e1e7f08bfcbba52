use Rattle.std.proofs.Common.{◌≡◌, length}
use Rattle.std.specs.BinaryHeap.{heap_items}
use Rattle.sb_lit.specs.Kept.{kept_up_to}
use Rattle.sb_clauses.specs.Records.{kept_of}
use Rattle.sb_clauses.specs.Scoped.{AreScoped}
use Rattle.sb_clauses.specs.Occurring.{AreFound}
use Rattle.sb_clauses.proofs.clauses.drop_records_above.Given as goal

abbrev pub invariant-loop : goal.invariant-loop
invariant-loop l = AreScoped (kept_of l.records) (heap_items l.scoped)
    × (kept_up_to l.level (kept_of l.records) ≡ kept_up_to l.level (kept_of l.initial.records))
    × AreFound (kept_of l.records) l.occurrences.heads l.occurrences.nodes.items

abbrev pub decreases-loop : goal.decreases-loop
decreases-loop l = length (heap_items l.scoped)
