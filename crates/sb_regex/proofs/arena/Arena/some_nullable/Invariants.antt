use Rattle.std.proofs.Common.{◌≡◌, drop}
use Rattle.sb_lang.specs.Regex.{regexes}
use Rattle.sb_lang.specs.Derivative.{some_nullable}
use Rattle.sb_regex.specs.Numbered.{regexes_at}
use Rattle.sb_regex.proofs.arena.Arena.some_nullable.Given as goal

abbrev pub invariant-loop-id : goal.invariant-loop-id
invariant-loop-id l =
    some_nullable (regexes (regexes_at l.self (drop l.id-index l.ids)))
    ≡ some_nullable (regexes (regexes_at l.self l.ids))
