use Rattle.std.proofs.Common.{◌≡◌, ℕ, ◌<◌, List, ◌++◌, length, reverse}
use Rattle.sb_graph.specs.Queue.{word_at, AreWords}
use Rattle.sb_graph.proofs.members.word_of.Given as goal

abbrev pub invariant-loop-at : goal.invariant-loop-at
invariant-loop-at l =
    (l.at < length l.queue)
    × ((words : List (List ℕ)) → AreWords l.queue words
    → word_at words l.place ≡ word_at words l.at ++ reverse l.codes.items)

abbrev pub decreases-loop-at : goal.decreases-loop-at
decreases-loop-at l = l.at
