use Rattle.sb_models.specs.Tried.{marks_of}
use Rattle.sb_models.proofs.WordFacts.{empty_at_first, changes_none}
use Rattle.sb_models.proofs.changes.clear_behind.Goals as goal

pub loop-place-init : goal.loop-place-init
loop-place-init c = (
  empty_at_first c.args.constants.now c.args.count c.args.words.now.items c.requires,
  changes_none c.args.words.now.items (marks_of c.args.changed.now),
)
