use Rattle.std.proofs.Common.{◌≡◌, ◌++◌, map, take}
use Rattle.sb_fragment.proofs.pairs.put_with_each.Given as goal

abbrev pub invariant-loop-other : goal.invariant-loop-other
invariant-loop-other g l =
    l.found.items ≡ l.fn.found.items ++ map (λ other. (l.first, other)) (take l.other-index l.others)
