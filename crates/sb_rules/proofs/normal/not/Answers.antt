use Rattle.std.proofs.Common.{sym, ◌∙◌}
use Rattle.sb_rules.proofs.Made.{not-none, not-some}
use Rattle.sb_regex.proofs.CallerLemmas.{names_below}
use Rattle.sb_rules.proofs.normal.not.Goals as goal

pub returns-clause-normal : goal.returns-clause-normal
returns-clause-normal c =
    not-none c.args.arena.now c.not.new.self c.in_ok-id.id c.node.result.now c.order_tells_apart.ensures
    c.normal_regexes_each_once.ensures.distinct c.in_ok-id.ensures.extends c.node.ensures.value c.node.ensures.parts
    c.args.a c.requires c.in_ok-id.ensures.ok (sym c.is_not_of.ensures ∙ c.if-is_not_of.false)

pub node-requires : goal.node-requires
node-requires c = names_below c.not.new.self c.in_ok-id.id _ c.in_ok-id.ensures.ok

pub returns-then-is_not_of-clause-normal : goal.returns-then-is_not_of-clause-normal
returns-then-is_not_of-clause-normal c =
    not-some c.args.arena.now c.not.new.self c.in_ok-id.id c.node.result.now c.order_tells_apart.ensures
    c.normal_regexes_each_once.ensures.distinct c.in_ok-id.ensures.extends c.node.ensures.value c.node.ensures.parts
    c.args.a c.requires c.in_ok-id.ensures.ok (sym c.is_not_of.ensures ∙ c.if-is_not_of.true)
