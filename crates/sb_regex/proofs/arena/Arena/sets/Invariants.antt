use Rattle.std.proofs.Common.{◌≡◌, ◌++◌, drop}
use Rattle.std.specs.List.{flat_map}
use Rattle.sb_lang.specs.Constructors.{ranges_of}
use Rattle.sb_regex.specs.Numbered.{regexes_at}
use Rattle.sb_regex.proofs.arena.Arena.sets.Given as goal

abbrev pub invariant-loop-id : goal.invariant-loop-id
invariant-loop-id l =
    l.classes.items ++ flat_map ranges_of (regexes_at l.self (drop l.id-index l.members))
    ≡ flat_map ranges_of (regexes_at l.self l.members)
