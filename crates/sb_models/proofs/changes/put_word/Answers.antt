use Rattle.std.proofs.Common.{[]}
use Rattle.sb_models.specs.Tried.{marks_of}
use Rattle.sb_models.proofs.WordFacts.{put_in, changes_one}
use Rattle.sb_models.proofs.changes.put_word.Goals as goal

pub returns-clause-changes : goal.returns-clause-changes
returns-clause-changes c =
    changes_one c.args.words.now.items _ (marks_of c.args.changed.now) (marks_of c.mark.new.changed) c.args.constant.serial.0
    c.args.word c.in_ok-mark.ensures
    (put_in [] c.args.words.now.items c.make_room.new.words.items c.args.constant.serial.0 c.args.word
    c.in_ok-make_room.ensures.0 c.in_ok-make_room.ensures.1)
