use Rattle.std.proofs.Common.{sym, ◌∙◌}
use Rattle.sb_trail.proofs.EntryLemmas.{level_after-last}
use Rattle.sb_trail.proofs.trail.newest_level.Goals as goal

pub returns-in-Some : goal.returns-in-Some
returns-in-Some c =
    c.level.ensures ∙ level_after-last 0 c.args.entries.now c.in-Some.newest.now (sym c.in-Some.ensures.value)
