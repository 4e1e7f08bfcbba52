use Rattle.std.proofs.Common.{◌∷◌, map, ap, sym, ◌∙◌}
use Rattle.std.specs.List.{list_all}
use Rattle.std.specs.HashSet.{contains}
use Rattle.sb_lit.specs.Clauses.{negation, is_among}
use Rattle.sb_hints.specs.Sets.{are_equal}
use Rattle.sb_rules.proofs.Gated.{not_many, many}
use Rattle.sb_rules.proofs.gates.has_each_denied.Goals as goal

pub returns-then-not-has_all : goal.returns-then-not-has_all
returns-then-not-has_all c =
    let has = contains are_equal c.args.all.now in
    not_many c.args.clause.now (c.args.literal ∷ map negation c.args.conjuncts.now) has c.requires
    (ap (list_all has) (sym (c.deref.ensures.value ∙ c.in_ok-gate.ensures))
    ∙ (sym c.has_all.ensures ∙ c.if-not-has_all.true))

pub returns : goal.returns
returns c =
    let has = contains are_equal c.args.all.now in
    many c.args.clause.now (c.args.literal ∷ map negation c.args.conjuncts.now) has
    (contains are_equal c.in_ok-gate-2.gate) c.has_all-2.result c.requires
    (λ l. c.in_ok-gate-2.ensures l ∙ ap (λ xs. is_among xs l) (c.deref-2.ensures.value ∙ c.in_ok-gate.ensures))
    (ap (list_all has) (sym (c.deref.ensures.value ∙ c.in_ok-gate.ensures))
    ∙ (sym c.has_all.ensures ∙ c.if-not-has_all.false)) c.has_all-2.ensures
