use Rattle.std.proofs.Common.{arith, length}
use Rattle.sb_problem.proofs.Joins.{optional_found}
use Rattle.sb_regex.proofs.CallerLemmas.{extends_more, number_in, number_kept, names_below, two_numbers}
use Rattle.sb_problem.proofs.join.option.Goals as goal

pub returns-clause-ok : goal.returns-clause-ok
returns-clause-ok c =
    optional_found c.args.arena.now c.eps.new.self c.alt.new.self c.args.ids.now c.body-item.result c.in_ok-eps.eps
    c.in_ok-alt.field-0 c.requires (omega arith) (omega arith) c.body-item.is c.in_ok-eps.ensures.extends
    c.in_ok-eps.ensures.ok c.in_ok-alt.ensures.ok

pub alt-requires : goal.alt-requires
alt-requires c =
    let body = number_in c.args.arena.now c.args.ids.now 0 c.body-item.result c.requires (omega arith) c.body-item.is in
    two_numbers (length c.eps.new.self) c.body-item.result c.in_ok-eps.eps
    (number_kept c.args.arena.now c.eps.new.self c.body-item.result c.in_ok-eps.ensures.extends body)
    (names_below c.eps.new.self c.in_ok-eps.eps _ c.in_ok-eps.ensures.ok)

pub returns-in_err-alt-clause-extends : goal.returns-in_err-alt-clause-extends
returns-in_err-alt-clause-extends c =
    extends_more _ _ _ c.in_ok-eps.ensures.extends c.in_err-alt.ensures.extends

pub returns-clause-extends : goal.returns-clause-extends
returns-clause-extends c =
    extends_more _ _ _ c.in_ok-eps.ensures.extends c.in_ok-alt.ensures.extends
