use Rattle.std.proofs.Common.{arith, sym, ◌∙◌}
use Rattle.std.proofs.lemmas.Grind.{common_steps, elements}
use Rattle.sb_clauses.proofs.Settling.{some_answer}
use Rattle.sb_clauses.proofs.occurrences.false_of_any.Goals as goal

pub loop-literal-preserved : goal.loop-literal-preserved
loop-literal-preserved c = grind (arith, common_steps)

pub returns : goal.returns
returns c = grind (arith, elements)

pub returns-then-is_some : goal.returns-then-is_some
returns-then-is_some c =
    some_answer _ _ _ _ (sym c.is_some.ensures ∙ c.if-is_some.true) c.false_of-found.ensures
