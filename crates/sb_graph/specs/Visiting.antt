-- Private: what a turn puts into a queue, and marks by number.
use Rattle.std.specs.Prelude.{ℕ, Bool, true, List, [], ◌∷◌, set, if◌then◌else◌}
use Rattle.sb_graph.specs.Queue.{Entry, with_entry}
use Rattle.sb_graph.specs.Findings.{is_marked}

-- with the targets of the pieces of the regex at the place, but for those with a mark
unfoldable pub visited : List Bool → ℕ → List Entry → List (ℕ × ℕ) → List Entry
visited dead place es [] = es
visited dead place es (p ∷ ps) =
    visited dead place (if is_marked dead p.1 then es else with_entry es (p.1, (place, p.0))) ps

-- with marks on the numbers
unfoldable pub with_marks : List Bool → List ℕ → List Bool
with_marks dead [] = dead
with_marks dead (n ∷ ns) = with_marks (set dead n true) ns
