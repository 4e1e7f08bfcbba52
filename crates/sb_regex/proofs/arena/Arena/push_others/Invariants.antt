use Rattle.std.proofs.Common.{◌≡◌, ◌++◌, drop}
use Rattle.sb_regex.specs.Numbered.{regexes_at, AllNumbers}
use Rattle.sb_regex.specs.Steps.{without_sets}
use Rattle.sb_regex.proofs.arena.Arena.push_others.Given as goal

abbrev pub invariant-loop-id : goal.invariant-loop-id
invariant-loop-id l =
    (AllNumbers l.self l.fn.all.items → AllNumbers l.self l.all.items)
    × (regexes_at l.self l.all.items ++ without_sets (regexes_at l.self (drop l.id-index l.members))
    ≡ regexes_at l.self l.fn.all.items ++ without_sets (regexes_at l.self l.members))
