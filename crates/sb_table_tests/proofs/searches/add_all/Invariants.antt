use Rattle.std.proofs.Common.{length}
use Rattle.sb_atoms.specs.Numbered.{HaveRegexesBelow}
use Rattle.sb_theory.specs.Tables.{AreFormed}
use Rattle.sb_table_tests.proofs.searches.add_all.Given as goal

abbrev pub invariant-loop-says : goal.invariant-loop-says
invariant-loop-says l = HaveRegexesBelow (length l.arena) l.atoms × AreFormed l.atoms
