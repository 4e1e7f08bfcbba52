use Rattle.std.proofs.Common.{arith}
use Rattle.sb_problem.proofs.Joins.{repeated_found}
use Rattle.sb_regex.proofs.CallerLemmas.{extends_more, number_in, number_kept, names_below}
use Rattle.sb_problem.proofs.join.plus.Goals as goal

pub returns-clause-ok : goal.returns-clause-ok
returns-clause-ok c =
    repeated_found c.args.arena.now c.star.new.self c.cat.new.self c.args.ids.now c.body-item.result c.in_ok-star.star
    c.in_ok-cat.field-0 c.requires (omega arith) (omega arith) c.body-item.is c.in_ok-star.ensures.extends
    c.in_ok-star.ensures.ok c.in_ok-cat.ensures.ok

pub cat-requires-clause-left : goal.cat-requires-clause-left
cat-requires-clause-left c =
    let body = number_in c.args.arena.now c.args.ids.now 0 c.body-item.result c.requires (omega arith) c.body-item.is in
    number_kept c.args.arena.now c.star.new.self c.body-item.result c.in_ok-star.ensures.extends body

pub cat-requires-clause-right : goal.cat-requires-clause-right
cat-requires-clause-right c =
    names_below c.star.new.self c.in_ok-star.star _ c.in_ok-star.ensures.ok

pub returns-in_err-cat-clause-extends : goal.returns-in_err-cat-clause-extends
returns-in_err-cat-clause-extends c =
    extends_more _ _ _ c.in_ok-star.ensures.extends c.in_err-cat.ensures.extends

pub returns-clause-extends : goal.returns-clause-extends
returns-clause-extends c =
    extends_more _ _ _ c.in_ok-star.ensures.extends c.in_ok-cat.ensures.extends
