use Rattle.std.proofs.Common.{None, refl, sym, ◌∙◌, arith}
use Rattle.sb_clauses.proofs.Waiting.{some_length, arrives_forced}
use Rattle.std.proofs.lemmas.Grind.{common_steps}
use Rattle.sb_clauses.proofs.place.arrive.Goals as goal

pub returns-in-None : goal.returns-in-None
returns-in-None c =
    arrives_forced c.args.trail.now.literals c.args.clause.now c.args.own c.args.other None
    (c.requires.watchable.inside (some_length _ (sym c.is_empty.ensures ∙ c.if-is_empty.false))).0 c.requires.watchable
    c.requires.best c.in-None.ensures.value refl c.in-None.ensures.atom (sym c.is_or_false.ensures ∙ c.if-is_or_false.true)

pub returns-then-is_empty : goal.returns-then-is_empty
returns-then-is_empty c = grind (arith, common_steps)
