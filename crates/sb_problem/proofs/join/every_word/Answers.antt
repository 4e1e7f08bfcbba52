use Rattle.sb_problem.proofs.Joins.{all_found}
use Rattle.sb_regex.proofs.CallerLemmas.{extends_more, names_below}
use Rattle.sb_problem.proofs.join.every_word.Goals as goal

pub returns-clause-ok : goal.returns-clause-ok
returns-clause-ok c =
    all_found c.args.arena.now c.none.new.self c.not.new.self c.args.ids.now c.in_ok-none.none c.in_ok-not.field-0
    c.if-not-is_empty.ensures c.in_ok-none.ensures.ok c.in_ok-not.ensures.ok

pub not-requires : goal.not-requires
not-requires c =
    names_below c.none.new.self c.in_ok-none.none _ c.in_ok-none.ensures.ok

pub returns-in_err-not-clause-extends : goal.returns-in_err-not-clause-extends
returns-in_err-not-clause-extends c =
    extends_more _ _ _ c.in_ok-none.ensures.extends c.in_err-not.ensures.extends

pub returns-clause-extends : goal.returns-clause-extends
returns-clause-extends c =
    extends_more _ _ _ c.in_ok-none.ensures.extends c.in_ok-not.ensures.extends
