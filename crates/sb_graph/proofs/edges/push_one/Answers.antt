use Rattle.sb_graph.proofs.Fronts.{pushed_none, pushed_one}
use Rattle.sb_regex.proofs.CallerLemmas.{names_below}
use Rattle.sb_graph.proofs.edges.push_one.Goals as goal

pub returns-then-is_none-clause-pushed : goal.returns-then-is_none-clause-pushed
returns-then-is_none-clause-pushed c =
    pushed_none c.cat.new.self c.args.character c.in_ok-behind.behind _ c.args.edges.now.items c.in_ok-behind.ensures.ok
    (c.is_none.ensures c.if-is_none.true)

pub returns-clause-pushed : goal.returns-clause-pushed
returns-clause-pushed c =
    pushed_one c.cat.new.self c.args.character c.in_ok-behind.behind _ c.args.edges.now.items c.push.new.self.items
    c.in_ok-behind.ensures.ok c.in_ok-push.ensures.items

pub is_none-requires : goal.is_none-requires
is_none-requires c = names_below _ _ _ c.in_ok-behind.ensures.ok

pub returns-clause-extends : goal.returns-clause-extends
returns-clause-extends c = c.in_ok-behind.ensures.extends
