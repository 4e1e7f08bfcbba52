use Rattle.sb_refute.proofs.Words.{◌∙◌, arith, take_all, IfOk-from_err, common_steps}
use Rattle.sb_refute.proofs.evidence.enlarged.Goals as goal

pub loop-literal-preserved : goal.loop-literal-preserved
loop-literal-preserved c = grind (arith, common_steps)

pub returns : goal.returns
returns c =
    c.loop-literal.invariant
    ∙ take_all c.loop-literal.literal-index c.args.literals.now (omega (arith, c.loop-literal-test.false))

pub returns-in_err-all : goal.returns-in_err-all
returns-in_err-all c = IfOk-from_err c.from_residual.result _ c.from_residual.ensures.0

pub returns-in_err-push : goal.returns-in_err-push
returns-in_err-push c = IfOk-from_err c.from_residual-in_err-push.result _ c.from_residual-in_err-push.ensures.0
