use Rattle.std.proofs.Common.{drop}
use Rattle.sb_lang.specs.Language.{language}
use Rattle.sb_regex.specs.Numbered.{regex_at}
use Rattle.sb_plain.specs.Walking.{IsWalking}
use Rattle.sb_plain.proofs.walk.search.Given as goal

abbrev pub invariant-loop-turn : goal.invariant-loop-turn
invariant-loop-turn l =
    IsWalking l.fn.arena l.arena l.learnt l.failed l.codes
    (language (regex_at l.fn.arena l.fn.r) (drop l.fn.place l.codes)) l.states.items
