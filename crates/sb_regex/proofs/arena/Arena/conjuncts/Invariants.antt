use Rattle.std.proofs.Common.{◌≡◌, ◌++◌, drop}
use Rattle.std.specs.List.{flat_map}
use Rattle.sb_lang.specs.Constructors.{conjuncts}
use Rattle.sb_regex.specs.Numbered.{regexes_at, AllNumbers}
use Rattle.sb_regex.proofs.arena.Arena.conjuncts.Given as goal

abbrev pub invariant-loop-id : goal.invariant-loop-id
invariant-loop-id l =
    AllNumbers l.self l.members.items
    × (regexes_at l.self l.members.items ++ flat_map conjuncts (regexes_at l.self (drop l.id-index l.ids))
    ≡ flat_map conjuncts (regexes_at l.self l.ids))
