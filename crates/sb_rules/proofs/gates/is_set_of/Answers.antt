use Rattle.std.proofs.Common.{◌&&◌, ap, sym, ◌∙◌}
use Rattle.std.specs.List.{list_all}
use Rattle.std.specs.HashSet.{contains}
use Rattle.sb_hints.specs.Sets.{are_equal}
use Rattle.sb_rules.proofs.Gated.{is_few}
use Rattle.sb_rules.proofs.gates.is_set_of.Goals as goal

pub returns-then-are_among : goal.returns-then-are_among
returns-then-are_among c =
    c.has_all.ensures
    ∙ (ap (λ b. b && list_all (contains are_equal c.args.all.now) c.args.few.now)
    (sym c.if-are_among.true ∙ c.are_among.ensures)
    ∙ is_few c.args.clause.now c.args.few.now (contains are_equal c.args.all.now) c.requires)

pub returns-else-are_among : goal.returns-else-are_among
returns-else-are_among c =
    c.if-are_among.false
    ∙ (ap (λ b. b && list_all (contains are_equal c.args.all.now) c.args.few.now)
    (sym c.if-are_among.false ∙ c.are_among.ensures)
    ∙ is_few c.args.clause.now c.args.few.now (contains are_equal c.args.all.now) c.requires)
