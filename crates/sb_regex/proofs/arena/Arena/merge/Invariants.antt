use Rattle.std.proofs.Common.{◌≡◌, ◌+◌, ◌-◌, ◌≤◌, ◌++◌, length, drop}
use Rattle.std.specs.List.Sorted.{IsStrictlySortedBy}
use Rattle.sb_lang.specs.Order.{regex_cmp}
use Rattle.sb_lang.specs.FoldLaws.{SameMembers}
use Rattle.sb_regex.specs.Numbered.{regexes_at, AllNumbers}
use Rattle.sb_regex.proofs.arena.Arena.merge.Given as goal

abbrev pub invariant-loop-i : goal.invariant-loop-i
invariant-loop-i l =
    (l.self ≡ l.fn.self)
    × (l.i ≤ length l.left)
    × (l.j ≤ length l.right)
    × AllNumbers l.self l.all.items
    × IsStrictlySortedBy regex_cmp (regexes_at l.self l.all.items ++ regexes_at l.self (drop l.i l.left))
    × IsStrictlySortedBy regex_cmp (regexes_at l.self l.all.items ++ regexes_at l.self (drop l.j l.right))
    × SameMembers (regexes_at l.self l.all.items
    ++ (regexes_at l.self (drop l.i l.left) ++ regexes_at l.self (drop l.j l.right)))
    (regexes_at l.self l.left ++ regexes_at l.self l.right)

abbrev pub decreases-loop-i : goal.decreases-loop-i
decreases-loop-i l = (length l.left - l.i) + (length l.right - l.j)
