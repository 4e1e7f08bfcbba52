use Rattle.std.proofs.Common.{drop}
use Rattle.std.specs.HashSet.{contains}
use Rattle.sb_hints.specs.Listing.{are_equal}
use Rattle.sb_hints.specs.Following.{as_course}
use Rattle.sb_hints.proofs.Steps.{IsFollowed}
use Rattle.sb_hints.proofs.judge.follow.Given as goal

abbrev pub invariant-loop-id : goal.invariant-loop-id
invariant-loop-id l = IsFollowed l.kept (contains are_equal l.fn.held) (contains are_equal l.held) (as_course l.course)
    (drop l.id-index l.ids) l.ids
