use Rattle.sb_theory.proofs.Words.{◌∙◌, ap, nat_lt, sym}
use Rattle.sb_theory.proofs.Standing.{level_last}
use Rattle.sb_theory.proofs.place.is_above.Goals as goal

pub returns-in-Some : goal.returns-in-Some
returns-in-Some c =
    ap (nat_lt c.args.level)
    (c.level.ensures ∙ level_last 0 c.args.entries.now c.in-Some.entry.now (sym c.in-Some.ensures.value))
