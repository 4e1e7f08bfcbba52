use Rattle.std.proofs.Common.{◌≡◌, drop}
use Rattle.sb_rules.specs.Burying.{first_alive_of}
use Rattle.sb_rules.proofs.known.KnownRegexes.first_alive.Given as goal

abbrev pub invariant-loop-number : goal.invariant-loop-number
invariant-loop-number l =
    first_alive_of l.arena l.self l.members.keys (drop l.number-index l.numbers)
    ≡ first_alive_of l.arena l.self l.members.keys l.numbers
