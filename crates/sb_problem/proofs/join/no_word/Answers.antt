use Rattle.sb_problem.proofs.Joins.{nothing_found}
use Rattle.sb_problem.proofs.join.no_word.Goals as goal

pub returns-clause-ok : goal.returns-clause-ok
returns-clause-ok c =
    nothing_found c.args.arena.now c.none.new.self c.args.ids.now c.in_ok-none.field-0 _ c.if-not-is_empty.ensures
    c.in_ok-none.ensures.ok
