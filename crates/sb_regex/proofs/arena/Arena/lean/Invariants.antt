use Rattle.std.proofs.Common.{◌≡◌, ◌<◌, ◌≤◌, length, take}
use Rattle.sb_regex.specs.Numbered.{regex_at, regexes_at, Extends}
use Rattle.sb_regex.specs.Spine.{chain}
use Rattle.sb_regex.proofs.arena.Arena.lean.Given as goal

abbrev pub invariant-loop-left : goal.invariant-loop-left
invariant-loop-left l =
    (l.left ≤ length l.heads)
    × Extends l.fn.self l.self
    × (l.whole < length l.self)
    × (chain (regexes_at l.fn.self (take l.left l.heads)) (regex_at l.self l.whole)
    ≡ chain (regexes_at l.fn.self l.heads) (regex_at l.fn.self l.fn.last))

abbrev pub decreases-loop-left : goal.decreases-loop-left
decreases-loop-left l = l.left
