use Rattle.sb_split.proofs.Words.{sym, ap, ◌∙◌, arith, common_steps, take_all, IfOk-from_err, are_small}
use Rattle.sb_split.proofs.defining.copied_characters.Goals as goal

pub loop-character-preserved : goal.loop-character-preserved
loop-character-preserved c = grind (arith, common_steps)

pub returns : goal.returns
returns c =
    let all = take_all c.loop-character.character-index c.args.characters.now
    (omega (arith, c.loop-character-test.false)) in
    (c.loop-character.invariant.0 ∙ all, ap are_small (sym all) ∙ c.loop-character.invariant.1)

pub returns-in_err-all : goal.returns-in_err-all
returns-in_err-all c = IfOk-from_err c.from_residual.result _ c.from_residual.ensures.0

pub returns-in_err-push : goal.returns-in_err-push
returns-in_err-push c = IfOk-from_err c.from_residual-in_err-push.result _ c.from_residual-in_err-push.ensures.0
