use Rattle.std.proofs.Common.{sym}
use Rattle.sb_word.specs.Spelling.{spelled_in}
use Rattle.sb_word.proofs.FrontLemmas.{escape_is_front}
use Rattle.sb_word.proofs.escape.in_front.Goals as goal

pub returns-in-Some : goal.returns-in-Some
returns-in-Some c =
    escape_is_front c.args.bytes.now (spelled_in c.in-Some.spelled) (sym c.in-Some.ensures)
