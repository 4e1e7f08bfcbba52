use Rattle.std.proofs.Common.{sym, ◌∙◌}
use Rattle.sb_regex.proofs.CallerLemmas.{names_below}
use Rattle.sb_rules.proofs.Made.{path-none, path-some}
use Rattle.sb_rules.proofs.normal.path.Goals as goal

pub node-requires : goal.node-requires
node-requires c = names_below c.path.new.self c.in_ok-id.id _ c.in_ok-id.ensures.ok

pub returns-then-is_path_of-clause-normal : goal.returns-then-is_path_of-clause-normal
returns-then-is_path_of-clause-normal c =
    path-some c.args.arena.now c.path.new.self c.in_ok-id.id c.node.result.now c.order_tells_apart.ensures
    c.normal_regexes_each_once.ensures.distinct c.in_ok-id.ensures.extends c.node.ensures.value c.node.ensures.parts
    c.args.a c.args.b c.requires.left c.requires.right c.in_ok-id.ensures.ok
    (sym c.is_path_of.ensures ∙ c.if-is_path_of.true)

pub returns-clause-normal : goal.returns-clause-normal
returns-clause-normal c =
    path-none c.args.arena.now c.path.new.self c.in_ok-id.id c.node.result.now c.order_tells_apart.ensures
    c.normal_regexes_each_once.ensures.distinct c.in_ok-id.ensures.extends c.node.ensures.value c.node.ensures.parts
    c.args.a c.args.b c.requires.left c.requires.right c.in_ok-id.ensures.ok
    (sym c.is_path_of.ensures ∙ c.if-is_path_of.false)
