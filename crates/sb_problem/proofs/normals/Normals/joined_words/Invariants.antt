use Rattle.std.proofs.Common.{◌≤◌, length, drop}
use Rattle.sb_problem.proofs.Keeping.{AreWords}
use Rattle.sb_problem.proofs.normals.Normals.joined_words.Given as goal

abbrev pub invariant-loop-left : goal.invariant-loop-left
invariant-loop-left l = (l.left ≤ length l.fn.ids) × AreWords l.fn.table (drop l.left l.fn.ids) l.all

abbrev pub decreases-loop-left : goal.decreases-loop-left
decreases-loop-left l = l.left
