use Rattle.sb_decide.proofs.Words.{◌≡◌, ◌<◌, List, Option, length, All, IsTakingOver, Member, Regex, Serial}
use Rattle.sb_decide.proofs.closing.take_over.Given as goal

abbrev pub invariant-loop-one : goal.invariant-loop-one
invariant-loop-one l =
    (length l.constants ≡ length l.fn.constants)
    × (length l.words ≡ length l.fn.words)
    × All (λ one. one.serial.0 < length l.fn.constants) l.found.items
    × ((rs : List Regex) (ms : List (Option Member)) (left : List Serial)
    → IsTakingOver rs ms left l.fn.constants l.fn.constants l.fn.words l.fn.found.items
    → IsTakingOver rs ms left l.fn.constants l.constants l.words l.found.items)

abbrev pub decreases-loop-one : goal.decreases-loop-one
decreases-loop-one l = length l.found.items
