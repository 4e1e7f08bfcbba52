use Rattle.std.proofs.Common.{◌≡◌, drop}
use Rattle.sb_graph.specs.Queue.{with_each}
use Rattle.sb_graph.proofs.queue.Queue.put_each.Given as goal

abbrev pub invariant-loop-regex : goal.invariant-loop-regex
invariant-loop-regex l =
    with_each (l.before, l.character) l.self (drop l.regex-index l.regexes)
    ≡ with_each (l.before, l.character) l.fn.self l.regexes
