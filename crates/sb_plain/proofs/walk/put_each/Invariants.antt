use Rattle.std.proofs.Common.{◌≡◌, ◌-◌, ◌++◌, length, drop}
use Rattle.sb_plain.specs.Walking.{states_of}
use Rattle.sb_plain.proofs.walk.put_each.Given as goal

abbrev pub invariant-loop-count : goal.invariant-loop-count
invariant-loop-count l =
    l.states.items ≡ l.fn.states.items ++ states_of l.place (drop (length l.parts - l.count) l.parts)
