use Rattle.std.proofs.Common.{◌≤◌, length, drop}
use Rattle.sb_term.specs.Numbered.{terms_at}
use Rattle.sb_fragment.proofs.SideFacts.{AreBehind}
use Rattle.sb_fragment.proofs.sides.fit_words.Given as goal

abbrev pub invariant-loop-left : goal.invariant-loop-left
invariant-loop-left l = (l.left ≤ length l.fn.arguments)
    × AreBehind l.fn.distinct (terms_at l.fn.table (drop l.left l.fn.arguments)) l.all l.behind

abbrev pub decreases-loop-left : goal.decreases-loop-left
decreases-loop-left l = l.left
