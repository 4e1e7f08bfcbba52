use Rattle.std.proofs.Common.{◌≡◌, ◌<◌, length}
use Rattle.sb_regex.specs.Numbered.{regex_at, regexes_at, AllNumbers}
use Rattle.sb_regex.specs.Spine.{chain}
use Rattle.sb_regex.proofs.arena.Arena.spine.Given as goal

abbrev pub invariant-loop-head : goal.invariant-loop-head
invariant-loop-head l =
    (l.last < length l.self)
    × AllNumbers l.self l.heads.items
    × (chain (regexes_at l.self l.heads.items) (regex_at l.self l.last) ≡ regex_at l.self l.fn.a)

abbrev pub decreases-loop-head : goal.decreases-loop-head
decreases-loop-head l = l.last
