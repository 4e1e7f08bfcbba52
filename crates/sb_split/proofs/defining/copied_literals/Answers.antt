use Rattle.sb_split.proofs.Words.{sym, ap, ◌∙◌, arith, list_all, take_all, IfOk-from_err, is_small_literal, common_steps}
use Rattle.sb_split.proofs.defining.copied_literals.Goals as goal

pub loop-literal-preserved : goal.loop-literal-preserved
loop-literal-preserved c = grind (arith, common_steps)

pub returns : goal.returns
returns c =
    let all = take_all c.loop-literal.literal-index c.args.literals.now (omega (arith, c.loop-literal-test.false)) in
    (c.loop-literal.invariant.0 ∙ all, ap (list_all is_small_literal) (sym all) ∙ c.loop-literal.invariant.1)

pub returns-in_err-all : goal.returns-in_err-all
returns-in_err-all c = IfOk-from_err c.from_residual.result _ c.from_residual.ensures.0

pub returns-in_err-push : goal.returns-in_err-push
returns-in_err-push c = IfOk-from_err c.from_residual-in_err-push.result _ c.from_residual-in_err-push.ensures.0
