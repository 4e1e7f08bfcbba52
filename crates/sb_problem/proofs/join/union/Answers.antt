use Rattle.sb_problem.proofs.Joins.{union_found}
use Rattle.sb_problem.proofs.join.union.Goals as goal

pub returns-clause-ok : goal.returns-clause-ok
returns-clause-ok c =
    union_found c.union_of_one.ensures c.union_of_more.ensures c.args.arena.now c.alt.new.self c.args.ids.now
    c.in_ok-alt.field-0 c.normal_regexes_each_once.ensures.normal c.requires (c.if-is_empty.ensures)
    c.in_ok-alt.ensures.ok
