use Rattle.sb_rules.specs.Kept.{IsOver}
use Rattle.sb_table_tests.proofs.rules.follow.Given as goal

abbrev pub invariant-loop-row : goal.invariant-loop-row
invariant-loop-row g l = IsOver l.table l.kept
