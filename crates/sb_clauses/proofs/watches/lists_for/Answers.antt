use Rattle.std.proofs.Common.{arith}
use Rattle.sb_clauses.specs.Watching.{no_literal}
use Rattle.sb_clauses.proofs.Adding.{enough_more}
use Rattle.std.proofs.lemmas.Grind.{common_steps}
use Rattle.sb_clauses.proofs.watches.lists_for.Goals as goal

pub loop-literal-preserved : goal.loop-literal-preserved
loop-literal-preserved c =
    enough_more c.args.clause.now c.loop-literal.literal-index c.loop-literal.lists c.max-lists.result no_literal
    c.loop-literal-test.true c.loop-literal.invariant (omega arith) (omega arith) (omega arith)

pub returns : goal.returns
returns c = grind (arith, common_steps)
