use Rattle.std.proofs.Common.{◌<◌, length}
use Rattle.sb_lang.specs.Language.{language}
use Rattle.sb_regex.specs.Numbered.{regex_at}
use Rattle.sb_members.specs.Strongest.{IsWithin}
use Rattle.sb_members.proofs.needed.is_front_of.Given as goal

abbrev pub invariant-loop-wide : goal.invariant-loop-wide
invariant-loop-wide l =
    (l.wide < length l.arena)
    × (l.narrow < length l.arena)
    × (IsWithin (language (regex_at l.arena l.narrow)) (language (regex_at l.arena l.wide))
    → IsWithin (language (regex_at l.arena l.fn.regex)) (language (regex_at l.arena l.fn.front)))

abbrev pub decreases-loop-wide : goal.decreases-loop-wide
decreases-loop-wide l = l.wide
