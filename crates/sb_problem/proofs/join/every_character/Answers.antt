use Rattle.sb_problem.proofs.Joins.{nothing_found}
use Rattle.sb_problem.proofs.join.every_character.Goals as goal

pub returns-clause-ok : goal.returns-clause-ok
returns-clause-ok c =
    nothing_found c.args.arena.now c.of_characters.new.arena c.args.ids.now c.in_ok-of_characters.field-0 _
    c.if-not-is_empty.ensures c.in_ok-of_characters.ensures.names
