use Rattle.std.proofs.Common.{length, ◌-◌}
use Rattle.sb_values.specs.Explored.{Explores}
use Rattle.sb_values.proofs.search.Search.search_groups.Given as goal

abbrev pub invariant-loop-begin : goal.invariant-loop-begin
invariant-loop-begin l = Explores l.fn.arena l.arena l.fn.graph l.graph

abbrev pub decreases-loop-begin : goal.decreases-loop-begin
decreases-loop-begin l = length l.grouped.items - l.begin
