use Rattle.std.proofs.Common.{sym, ◌∙◌}
use Rattle.sb_rules.proofs.Standing.{full_none, full_some}
use Rattle.sb_rules.proofs.atoms.is_full.Goals as goal

pub returns-then-is_empty : goal.returns-then-is_empty
returns-then-is_empty c = full_none c.args.characters.now (sym c.is_empty.ensures ∙ c.if-is_empty.true)

pub returns : goal.returns
returns c =
    c.are_characters.ensures
    ∙ full_some c.args.characters.now (sym c.is_empty.ensures ∙ c.if-is_empty.false)
