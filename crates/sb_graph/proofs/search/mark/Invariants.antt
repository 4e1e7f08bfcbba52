use Rattle.std.proofs.Common.{◌≡◌, drop}
use Rattle.sb_graph.specs.Visiting.{with_marks}
use Rattle.sb_graph.proofs.search.mark.Given as goal

abbrev pub invariant-loop-regex : goal.invariant-loop-regex
invariant-loop-regex l = with_marks l.dead (drop l.regex-index l.regexes) ≡ with_marks l.fn.dead l.regexes
