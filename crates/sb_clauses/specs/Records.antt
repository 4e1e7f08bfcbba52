-- What a record says of a clause.
use Rattle.std.specs.Prelude.{List, map, Option, option_map}
use Rattle.sb_lit.specs.Kept.{Kept, KeptClause}
use Rattle.sb_clauses.specs.declared.record.Record.{Record}

abbrev pub clause_of : Record → KeptClause
clause_of r = record { literals = r.literals.items; level = r.level }

abbrev pub kept_of : List (Option Record) → Kept
kept_of records = map (option_map clause_of) records
