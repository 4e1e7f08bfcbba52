use Rattle.std.proofs.Common.{arith}
use Rattle.std.proofs.lemmas.Grind.{common_steps}
use Rattle.sb_proof.proofs.RowFacts.{summands_pushed, summands_odd}
use Rattle.std.proofs.lemmas.Result.{IfOk-from_err}
use Rattle.sb_proof.proofs.read.read_summands.Goals as goal

pub loop-left-preserved : goal.loop-left-preserved
loop-left-preserved c =
    summands_pushed _ c.loop-left.left.now _ c.loop-left.summands.items c.push.new.self.items c.in-Some.summand
    c.in-len2-up.len_at_least c.loop-left.invariant c.in-Some.ensures c.in_ok-push.ensures.items

pub returns : goal.returns
returns c =
    summands_odd _ c.loop-left.left.now c.loop-left.summands.items c.in_default.len_below (grind (arith, common_steps))
    c.loop-left.invariant

pub returns-then-is_empty : goal.returns-then-is_empty
returns-then-is_empty c = grind (arith, common_steps)

pub returns-in_err-push : goal.returns-in_err-push
returns-in_err-push c = IfOk-from_err c.from_residual.result _ c.from_residual.ensures.0
