use Rattle.std.proofs.Common.{refl}
use Rattle.std.proofs.lemmas.Result.{err_from_is_err_and}
use Rattle.sb_rulebook.specs.Judging.{behind_end}
use Rattle.sb_check.proofs.EndTurns.{behind_refused, behind_ended, last_limit, last_cut}
use Rattle.sb_check.proofs.Numbers.{judge_never, lines_never}
use Rattle.sb_check.proofs.checker.Checker.nothing_behind.Goals as goal

pub returns-in_err-ended-clause-err : goal.returns-in_err-ended-clause-err
returns-in_err-ended-clause-err g c =
    let e = err_from_is_err_and c.from_residual.result c.from_residual.ensures.1 in
    last_cut c.from_residual.result e.0 _ behind_end _ _ _ _ _ e.1 e.2 c.in_err-ended.ensures.err

pub returns-in-End-clause-ok : goal.returns-in-End-clause-ok
returns-in-End-clause-ok g c = behind_ended _ _ _ _ _ c.in-End.is c.in_ok-ended.ensures.ok

pub returns-in-Limit-clause-err : goal.returns-in-Limit-clause-err
returns-in-Limit-clause-err g c = last_limit behind_end _ _ _ _ _ _ refl c.in-Limit.is c.in_ok-ended.ensures.ok

pub returns-in-Line-clause-err : goal.returns-in-Line-clause-err
returns-in-Line-clause-err g c =
    behind_refused c.from.result _ _ c.in-Line.ended _ c.line.result.now _ _ _ _ c.from.ensures c.in-Line.is
    c.in_ok-ended.ensures.ok c.line.ensures c.refuse.ensures

pub returns-in_err-ended-clause-numbers : goal.returns-in_err-ended-clause-numbers
returns-in_err-ended-clause-numbers g c =
    let e = err_from_is_err_and c.from_residual.result c.from_residual.ensures.1 in
    rw (e.1, e.2) (lines_never _ _)

pub returns-in-Line-clause-numbers : goal.returns-in-Line-clause-numbers
returns-in-Line-clause-numbers g c = rw c.from.ensures (judge_never _ _)
