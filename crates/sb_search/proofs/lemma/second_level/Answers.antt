use Rattle.sb_search.proofs.Highest.{second_none, second_two}
use Rattle.sb_search.proofs.lemma.second_level.Goals as goal

pub returns-in-Some : goal.returns-in-Some
returns-in-Some c =
    rw c.false_from.ensures
    (second_two c.args.trail.now.literals c.args.clause.now c.args.last c.in-Some.second c.requires c.in-Some.ensures)

pub returns-in-None : goal.returns-in-None
returns-in-None c = second_none c.args.trail.now.literals c.args.clause.now c.args.last c.requires c.in-None.ensures
