use Rattle.std.proofs.Common.{length, map}
use Rattle.std.specs.HashSet.{contains}
use Rattle.sb_hints.specs.Storing.{before_of, kept_in}
use Rattle.sb_hints.specs.Listing.{are_equal, IsBelow, on_list, passes_in, steps_of}
use Rattle.sb_hints.proofs.Searching.{IsWalk}
use Rattle.sb_hints.proofs.lists.find_part.Given as goal

abbrev pub invariant-loop-next : goal.invariant-loop-next
invariant-loop-next l =
    let passes = passes_in (contains are_equal l.all) (kept_in l.literals l.rows) in
    let before = map before_of l.rows in
    record {
      below : IsBelow (length l.rows) l.next;
      walk : IsWalk passes before l.next (on_list passes before (length l.rows) l.fn.newest);
    }

abbrev pub decreases-loop-next : goal.decreases-loop-next
decreases-loop-next l = steps_of l.next
