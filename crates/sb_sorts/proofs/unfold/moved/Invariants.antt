use Rattle.std.proofs.Common.{◌≡◌, map, take}
use Rattle.sb_sorts.specs.Unfolding.{next_in}
use Rattle.sb_sorts.proofs.unfold.moved.Given as goal

abbrev pub invariant-loop-id : goal.invariant-loop-id
invariant-loop-id l = l.found.items ≡ map (next_in l.made.entries) (take l.id-index l.ids)
