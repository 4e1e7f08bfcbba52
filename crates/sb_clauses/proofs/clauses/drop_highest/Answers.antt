use Rattle.std.proofs.Common.{refl}
use Rattle.sb_clauses.proofs.Scoping.{scoped_end, turn}
use Rattle.sb_clauses.proofs.clauses.drop_highest.Goals as goal

pub returns-in_default-clause-turn : goal.returns-in_default-clause-turn
returns-in_default-clause-turn c =
    (scoped_end c.args.level _ _ c.requires.scoped c.in_default.ensures.0, refl, c.in_default.ensures.1)

pub returns-clause-turn : goal.returns-clause-turn
returns-clause-turn c =
    turn c.args.level _ _ _ c.in-Some.number c.requires.scoped c.in-Some.ensures _ c.drop_record.ensures.dropped
