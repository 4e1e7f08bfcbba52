use Rattle.std.proofs.Common.{◌<◌, length}
use Rattle.sb_lang.specs.Language.{language}
use Rattle.sb_regex.specs.Numbered.{regex_at}
use Rattle.sb_members.specs.Strongest.{IsWithin}
use Rattle.sb_members.proofs.needed.is_row.Given as goal

abbrev pub invariant-loop-body : goal.invariant-loop-body
invariant-loop-body l =
    (l.at < length l.arena)
    × (IsWithin (language (regex_at l.arena l.at)) (language (regex_at l.arena l.all))
    → IsWithin (language (regex_at l.arena l.fn.regex)) (language (regex_at l.arena l.all)))

abbrev pub decreases-loop-body : goal.decreases-loop-body
decreases-loop-body l = l.at
