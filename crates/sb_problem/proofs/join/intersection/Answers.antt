use Rattle.sb_problem.proofs.Joins.{only_found, intersection_found}
use Rattle.sb_problem.proofs.join.intersection.Goals as goal

pub returns-in-len1-clause-ok : goal.returns-in-len1-clause-ok
returns-in-len1-clause-ok c =
    only_found c.args.arena.now c.args.ids.now c.only-item.result c.requires c.in-len1.len_at_least c.in-len1.len_below
    c.only-item.is

pub returns-in_ok-and-in_default-clause-ok : goal.returns-in_ok-and-in_default-clause-ok
returns-in_ok-and-in_default-clause-ok c =
    intersection_found c.intersection_of_more.ensures c.args.arena.now c.and.new.self c.args.ids.now
    c.in_ok-and-in_default.field-0 c.normal_regexes_each_once.ensures.normal c.requires c.in_default.len_at_least
    c.in_ok-and-in_default.ensures.ok
