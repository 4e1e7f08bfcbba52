use Rattle.std.proofs.Common.{sym, ◌∙◌}
use Rattle.sb_regex.proofs.CallerLemmas.{names_below}
use Rattle.sb_rules.proofs.Made.{cat-first-cat, cat-some, cat-none}
use Rattle.sb_rules.proofs.normal.cat.Goals as goal

pub returns-then-is_cat-clause-normal : goal.returns-then-is_cat-clause-normal
returns-then-is_cat-clause-normal c =
    cat-first-cat c.args.arena.now c.args.a c.args.b c.node.result.now c.order_tells_apart.ensures
    c.node.ensures.value (sym c.is_cat.ensures ∙ c.if-is_cat.true)

pub node-requires-2 : goal.node-requires-2
node-requires-2 c = names_below c.cat.new.self c.in_ok-id.id _ c.in_ok-id.ensures.ok

pub returns-then-is_cat_of-clause-normal : goal.returns-then-is_cat_of-clause-normal
returns-then-is_cat_of-clause-normal c =
    cat-some c.args.arena.now c.cat.new.self c.in_ok-id.id c.node-2.result.now c.order_tells_apart.ensures
    c.normal_regexes_each_once.ensures.distinct c.in_ok-id.ensures.extends c.node-2.ensures.value
    c.node-2.ensures.parts c.args.a c.args.b c.requires.left c.requires.right c.in_ok-id.ensures.ok
    (sym c.is_cat_of.ensures ∙ c.if-is_cat_of.true)

pub returns-clause-normal : goal.returns-clause-normal
returns-clause-normal c =
    cat-none c.args.arena.now c.cat.new.self c.in_ok-id.id c.node-2.result.now c.order_tells_apart.ensures
    c.normal_regexes_each_once.ensures.distinct c.in_ok-id.ensures.extends c.node-2.ensures.value
    c.node-2.ensures.parts c.args.a c.args.b c.requires.left c.requires.right c.in_ok-id.ensures.ok
    (sym c.is_cat_of.ensures ∙ c.if-is_cat_of.false)
