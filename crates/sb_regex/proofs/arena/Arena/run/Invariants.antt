use Rattle.std.proofs.Common.{◌≡◌, ℕ, ◌+◌, ◌-◌, ◌<◌, ◌≤◌, length, get_or}
use Rattle.sb_lang.specs.Order.{regex_cmp}
use Rattle.sb_regex.specs.Numbered.{regex_at}
use Rattle.sb_regex.proofs.arena.Arena.run.Given as goal

abbrev pub invariant-loop-n : goal.invariant-loop-n
invariant-loop-n l =
    (l.self ≡ l.fn.self)
    × (1 ≤ l.n)
    × (l.n ≤ length l.ids)
    × ((k : ℕ) → k + 1 < l.n
    → regex_cmp (regex_at l.self (get_or l.ids k 0)) (regex_at l.self (get_or l.ids (k + 1) 0)) ≡ l.step)

abbrev pub decreases-loop-n : goal.decreases-loop-n
decreases-loop-n l = length l.ids - l.n
