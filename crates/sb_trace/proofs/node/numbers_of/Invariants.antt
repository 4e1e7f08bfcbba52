use Rattle.std.proofs.Common.{◌≡◌, Some, map, take}
use Rattle.sb_trace.specs.Tracking.{number_in}
use Rattle.sb_trace.proofs.node.numbers_of.Given as goal

abbrev pub invariant-loop-regex : goal.invariant-loop-regex
invariant-loop-regex l =
    map (number_in l.order.keys) (take l.regex-index l.regexes) ≡ map Some l.numbers.items
