use Rattle.std.proofs.Common.{sym, ◌∙◌}
use Rattle.sb_rules.proofs.Made.{rep-some, rep-none}
use Rattle.sb_regex.proofs.CallerLemmas.{names_below}
use Rattle.sb_rules.proofs.normal.rep.Goals as goal

pub returns-then-is_rep_of-clause-normal : goal.returns-then-is_rep_of-clause-normal
returns-then-is_rep_of-clause-normal c =
    rep-some c.args.arena.now c.rep.new.self c.in_ok-id.id c.node.result.now c.order_tells_apart.ensures
    c.normal_regexes_each_once.ensures.distinct c.in_ok-id.ensures.extends c.node.ensures.value c.node.ensures.parts
    c.args.a c.requires c.args.least c.args.most c.in_ok-id.ensures.ok
    (sym c.is_rep_of.ensures ∙ c.if-is_rep_of.true)

pub returns-clause-normal : goal.returns-clause-normal
returns-clause-normal c =
    rep-none c.args.arena.now c.rep.new.self c.in_ok-id.id c.node.result.now c.order_tells_apart.ensures
    c.normal_regexes_each_once.ensures.distinct c.in_ok-id.ensures.extends c.node.ensures.value c.node.ensures.parts
    c.args.a c.requires c.args.least c.args.most c.in_ok-id.ensures.ok
    (sym c.is_rep_of.ensures ∙ c.if-is_rep_of.false)

pub node-requires : goal.node-requires
node-requires c = names_below c.rep.new.self c.in_ok-id.id _ c.in_ok-id.ensures.ok
