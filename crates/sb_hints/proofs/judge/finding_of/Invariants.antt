use Rattle.std.proofs.Common.{◌≡◌, take, fold}
use Rattle.std.specs.HashSet.{contains}
use Rattle.sb_lit.specs.Hints.{falsified}
use Rattle.sb_hints.specs.Listing.{are_equal}
use Rattle.sb_hints.specs.Following.{as_finding, with_literal}
use Rattle.sb_hints.proofs.judge.finding_of.Given as goal

abbrev pub invariant-loop-literal : goal.invariant-loop-literal
invariant-loop-literal l = as_finding l.found
    ≡ fold (with_literal (contains are_equal l.held)) falsified (take l.literal-index l.clause)
