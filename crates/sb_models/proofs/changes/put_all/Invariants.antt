use Rattle.std.proofs.Common.{◌≤◌, length, take}
use Rattle.sb_models.specs.Knowing.{word_at}
use Rattle.sb_models.specs.Tried.{Changes, marks_of, texts_in}
use Rattle.sb_models.proofs.ValueFacts.{AreWordsFrom}
use Rattle.sb_models.proofs.WordFacts.{AreRest}
use Rattle.sb_models.proofs.changes.put_all.Given as goal

abbrev pub invariant-loop-place : goal.invariant-loop-place
invariant-loop-place l =
    (l.place ≤ length l.fn.values)
    × AreWordsFrom l.fn.values l.place
    × AreRest l.fn.constants (texts_in l.fn.values) (word_at l.fn.words.items) (take l.place (texts_in l.fn.values))
    (word_at l.words.items)
    × Changes l.fn.words.items (marks_of l.fn.changed) l.words.items (marks_of l.changed)

abbrev pub decreases-loop-place : goal.decreases-loop-place
decreases-loop-place l = l.place
