use Rattle.std.proofs.lemmas.Result.{err_from_is_err_and}
use Rattle.sb_check.proofs.Numbers.{world_never}
use Rattle.sb_check.proofs.check.write_verdict.Goals as goal

pub returns-in_err-write_all-clause-numbers : goal.returns-in_err-write_all-clause-numbers
returns-in_err-write_all-clause-numbers g c =
    let x = c.from_residual-in_err-write_all in
    let e = err_from_is_err_and x.result x.ensures.1 in
    rw (e.1, e.2) (world_never _ _)
