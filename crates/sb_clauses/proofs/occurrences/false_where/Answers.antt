use Rattle.std.specs.HashSet.{contains}
use Rattle.sb_clauses.specs.Records.{kept_of}
use Rattle.sb_clauses.specs.Occurring.{are_equal}
use Rattle.sb_clauses.proofs.OccurrenceLemmas.{none_false}
use Rattle.sb_clauses.proofs.occurrences.false_where.Goals as goal

pub returns : goal.returns
returns c =
    none_false (kept_of c.args.records.now) c.args.heads.now c.args.nodes.now (contains are_equal c.in_ok-all.all)
    c.requires c.args.literals.now c.in_ok-all.ensures c.in_default.ensures c.in-None.ensures
