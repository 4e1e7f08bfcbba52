use Rattle.std.specs.HashSet.{contains}
use Rattle.sb_solve.proofs.Words.{◌∙◌, IfOk-from_err, are_equal, claim_of}
use Rattle.sb_solve.proofs.Claims.{with_one}
use Rattle.sb_solve.proofs.denying.put.Goals as goal

pub returns : goal.returns
returns c = λ a.
    c.in_ok-insert.ensures.updates.0 (claim_of a)
    ∙ with_one (are_equal c.args.claim (claim_of a)) (contains are_equal c.args.claims.now (claim_of a))

pub returns-in_err-insert : goal.returns-in_err-insert
returns-in_err-insert c = IfOk-from_err c.from_residual.result _ c.from_residual.ensures.0
