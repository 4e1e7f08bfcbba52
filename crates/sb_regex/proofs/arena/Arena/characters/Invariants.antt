use Rattle.std.proofs.Common.{◌≡◌, ◌<◌, ◌≤◌, length, drop}
use Rattle.sb_lang.specs.Normal.{word_regex}
use Rattle.sb_regex.specs.Numbered.{regex_at, Extends}
use Rattle.sb_regex.proofs.arena.Arena.characters.Given as goal

abbrev pub invariant-loop-left : goal.invariant-loop-left
invariant-loop-left l =
    (l.left ≤ length l.fn.codes)
    × Extends l.fn.self l.self
    × (l.whole < length l.self)
    × (regex_at l.self l.whole ≡ word_regex (drop l.left l.fn.codes))

abbrev pub decreases-loop-left : goal.decreases-loop-left
decreases-loop-left l = l.left
