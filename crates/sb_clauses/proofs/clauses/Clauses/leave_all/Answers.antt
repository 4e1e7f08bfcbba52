use Rattle.std.proofs.Common.{arith}
use Rattle.std.specs.Option.{option_map}
use Rattle.std.proofs.lemmas.List.{length-map}
use Rattle.sb_clauses.specs.Records.{clause_of, kept_of}
use Rattle.sb_clauses.proofs.AllDropped.{empty_whole, scoped_none}
use Rattle.sb_clauses.proofs.clauses.Clauses.leave_all.Goals as goal

pub invariant_of-self : goal.invariant_of-self
invariant_of-self c =
    let rows = c.drop_records_from.new.records in (
      scoped_none (kept_of c.self.inside.records.items) (kept_of rows.items) _ c.clear.ensures.heap_order
          c.drop_records_from.ensures.dropped,
      c.drop_records_from.ensures.found,
      empty_whole c.len-self-inside.result (kept_of c.self.inside.records.items) (kept_of rows.items)
          (omega (arith, c.len-self-inside.ensures, rows.ok.0, length-map rows.items (option_map clause_of)))
          c.drop_records_from.ensures.dropped,
    )
