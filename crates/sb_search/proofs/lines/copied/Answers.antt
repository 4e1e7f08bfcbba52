use Rattle.sb_search.proofs.Words.{arith, common_steps, IfOk-from_err}
use Rattle.sb_search.proofs.lines.copied.Goals as goal

pub loop-literal-preserved : goal.loop-literal-preserved
loop-literal-preserved c = grind (arith, common_steps)

pub returns : goal.returns
returns c = record { same = grind (arith, common_steps); small = grind (arith, common_steps) }

pub returns-in_err-push : goal.returns-in_err-push
returns-in_err-push c = record {
  same = IfOk-from_err c.from_residual.result _ c.from_residual.ensures.0;
  small = IfOk-from_err c.from_residual.result _ c.from_residual.ensures.0;
}
