use Rattle.sb_models.specs.Tried.{Changes, marks_of}
use Rattle.sb_models.proofs.WordFacts.{AreEmptyFrom}
use Rattle.sb_models.proofs.changes.clear_behind.Given as goal

abbrev pub invariant-loop-place : goal.invariant-loop-place
invariant-loop-place l = AreEmptyFrom l.fn.count l.fn.constants l.place l.words.items
    × Changes l.fn.words.items (marks_of l.fn.changed) l.words.items (marks_of l.changed)
