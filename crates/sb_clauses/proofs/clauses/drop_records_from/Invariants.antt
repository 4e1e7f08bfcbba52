use Rattle.std.proofs.Common.{◌≡◌, ◌-◌, length}
use Rattle.sb_clauses.specs.Records.{kept_of}
use Rattle.sb_clauses.specs.Scoped.{AreEmptyBefore}
use Rattle.sb_clauses.specs.Occurring.{AreFound}
use Rattle.sb_clauses.proofs.clauses.drop_records_from.Given as goal

abbrev pub invariant-loop-number : goal.invariant-loop-number
invariant-loop-number l = AreEmptyBefore l.number (kept_of l.records.items)
    × (length (kept_of l.records.items) ≡ length (kept_of l.initial.records.items))
    × AreFound (kept_of l.records.items) l.occurrences.heads l.occurrences.nodes.items

abbrev pub decreases-loop-number : goal.decreases-loop-number
decreases-loop-number l = length l.records.items - l.number
