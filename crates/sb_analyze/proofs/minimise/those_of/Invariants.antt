use Rattle.std.proofs.Common.{◌≡◌, take, filter}
use Rattle.std.specs.HashSet.{contains}
use Rattle.sb_analyze.specs.Assumed.{are_equal}
use Rattle.sb_analyze.proofs.minimise.those_of.Given as goal

abbrev pub invariant-loop-literal : goal.invariant-loop-literal
invariant-loop-literal l =
    l.those.items ≡ filter (contains are_equal l.standing) (take l.literal-index l.literals)
