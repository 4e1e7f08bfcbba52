use Rattle.std.proofs.Common.{sym, ◌∙◌}
use Rattle.sb_rules.proofs.Made.{star-none, star-some}
use Rattle.sb_regex.proofs.CallerLemmas.{names_below}
use Rattle.sb_rules.proofs.normal.star.Goals as goal

pub returns-clause-normal : goal.returns-clause-normal
returns-clause-normal c =
    star-none c.args.arena.now c.star.new.self c.in_ok-id.id c.node.result.now c.order_tells_apart.ensures
    c.normal_regexes_each_once.ensures.distinct c.in_ok-id.ensures.extends c.node.ensures.value c.node.ensures.parts
    c.args.a c.requires c.in_ok-id.ensures.ok (sym c.is_star_of.ensures ∙ c.if-is_star_of.false)

pub node-requires : goal.node-requires
node-requires c = names_below c.star.new.self c.in_ok-id.id _ c.in_ok-id.ensures.ok

pub returns-then-is_star_of-clause-normal : goal.returns-then-is_star_of-clause-normal
returns-then-is_star_of-clause-normal c =
    star-some c.args.arena.now c.star.new.self c.in_ok-id.id c.node.result.now c.order_tells_apart.ensures
    c.normal_regexes_each_once.ensures.distinct c.in_ok-id.ensures.extends c.node.ensures.value c.node.ensures.parts
    c.args.a c.requires c.in_ok-id.ensures.ok (sym c.is_star_of.ensures ∙ c.if-is_star_of.true)
