use Rattle.sb_theory.proofs.Words.{◌∙◌, sym}
use Rattle.sb_theory.proofs.Noting.{no_row, row_there}
use Rattle.sb_theory.proofs.strings.Strings.has_row.Goals as goal

pub returns-then-is_some : goal.returns-then-is_some
returns-then-is_some c =
    row_there c.args.self.now.atoms c.args.trail.now.literals c.args.literal c.membership.result c.value.result
    c.is_some-then-is_some.result c.membership.ensures.some (sym c.is_some.ensures
    ∙ c.if-is_some.true) c.value.ensures.value
    c.is_some-then-is_some.ensures

pub returns-else-is_some : goal.returns-else-is_some
returns-else-is_some c =
    c.if-is_some.false ∙ no_row c.args.self.now.atoms c.args.trail.now.literals c.args.literal c.membership.result
    c.membership.ensures.none
    (sym c.is_some.ensures ∙ c.if-is_some.false)
