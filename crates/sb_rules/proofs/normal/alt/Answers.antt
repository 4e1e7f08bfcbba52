use Rattle.std.proofs.Common.{sym, ◌∙◌}
use Rattle.sb_rules.proofs.Made.{alt-some, alt-none}
use Rattle.sb_regex.proofs.CallerLemmas.{names_below}
use Rattle.sb_rules.proofs.normal.alt.Goals as goal

pub returns-then-is_alt_of-clause-normal : goal.returns-then-is_alt_of-clause-normal
returns-then-is_alt_of-clause-normal c =
    alt-some c.args.arena.now c.alt.new.self c.in_ok-id.id c.node.result.now c.order_tells_apart.ensures
    c.normal_regexes_each_once.ensures.distinct c.in_ok-id.ensures.extends c.node.ensures.value c.node.ensures.parts
    c.args.ids.now c.requires c.in_ok-id.ensures.ok (sym c.is_alt_of.ensures ∙ c.if-is_alt_of.true)

pub returns-clause-normal : goal.returns-clause-normal
returns-clause-normal c =
    alt-none c.args.arena.now c.alt.new.self c.in_ok-id.id c.node.result.now c.order_tells_apart.ensures
    c.normal_regexes_each_once.ensures.distinct c.in_ok-id.ensures.extends c.node.ensures.value c.node.ensures.parts
    c.args.ids.now c.requires c.in_ok-id.ensures.ok (sym c.is_alt_of.ensures ∙ c.if-is_alt_of.false)

pub node-requires : goal.node-requires
node-requires c = names_below c.alt.new.self c.in_ok-id.id _ c.in_ok-id.ensures.ok
