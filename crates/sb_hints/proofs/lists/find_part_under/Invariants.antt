use Rattle.std.proofs.Common.{◌≡◌, false, length, map, take}
use Rattle.std.specs.List.{list_any}
use Rattle.std.specs.HashSet.{contains}
use Rattle.sb_hints.specs.Storing.{before_of, kept_in}
use Rattle.sb_hints.specs.Listing.{are_equal, last_of, on_list, passes_in}
use Rattle.sb_hints.proofs.lists.find_part_under.Given as goal

abbrev pub invariant-loop-literal : goal.invariant-loop-literal
invariant-loop-literal l =
    list_any (λ m. on_list (passes_in (contains are_equal l.all) (kept_in l.literals l.rows)) (map before_of l.rows)
    (length l.rows) (last_of l.lists m)) (take l.literal-index l.clause) ≡ false
