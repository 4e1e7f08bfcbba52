use Rattle.std.proofs.Common.{◌≡◌, drop}
use Rattle.sb_lang.specs.Regex.{regexes}
use Rattle.sb_lang.specs.Derivative.{all_nullable}
use Rattle.sb_regex.specs.Numbered.{regexes_at}
use Rattle.sb_regex.proofs.arena.Arena.all_nullable.Given as goal

abbrev pub invariant-loop-id : goal.invariant-loop-id
invariant-loop-id l =
    all_nullable (regexes (regexes_at l.self (drop l.id-index l.ids)))
    ≡ all_nullable (regexes (regexes_at l.self l.ids))
