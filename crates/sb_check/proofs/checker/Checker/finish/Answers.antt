use Rattle.std.proofs.Common.{arith}
use Rattle.std.proofs.lemmas.Result.{err_from_is_err_and}
use Rattle.sb_check.proofs.EndTurns.{end_stops, behind_stops, end_accepted}
use Rattle.sb_check.proofs.Numbers.{out_at, out_on}
use Rattle.sb_check.proofs.checker.Checker.finish.Goals as goal

pub returns-in_err-last_line-clause-err : goal.returns-in_err-last_line-clause-err
returns-in_err-last_line-clause-err g c =
    let e = err_from_is_err_and c.from_residual.result c.from_residual.ensures.1 in
    end_stops c.from_residual.result e.0 _ _ _ _ _ _ e.1 e.2 c.in_err-last_line.ensures.err

pub returns-clause-ok : goal.returns-clause-ok
returns-clause-ok g c =
    end_accepted c.nothing_behind.result _ _ _ _ _ _ _ _ c.in_ok-last_line.ensures.ok c.nothing_behind.ensures.ok

pub returns-clause-err : goal.returns-clause-err
returns-clause-err g c =
    behind_stops c.nothing_behind.result _ _ _ _ _ _ _ _ c.in_ok-last_line.ensures.ok c.nothing_behind.ensures.err

pub returns-in_err-last_line-clause-numbers : goal.returns-in_err-last_line-clause-numbers
returns-in_err-last_line-clause-numbers g c =
    let e = err_from_is_err_and c.from_residual.result c.from_residual.ensures.1 in
    out_at c.from_residual.result e.0 _ _ _ e.1 e.2 (omega arith) c.in_err-last_line.ensures.numbers

pub returns-clause-numbers : goal.returns-clause-numbers
returns-clause-numbers g c = out_on c.nothing_behind.result 0 _ (omega arith) c.nothing_behind.ensures.numbers
