use Rattle.std.proofs.lemmas.Result.{err_from_is_err_and}
use Rattle.sb_check.proofs.CheckTurns.{turn_taken, turn_refused, turn_ended, turn_limit, turn_cut}
use Rattle.sb_check.proofs.Numbers.{at_last, lines_never}
use Rattle.sb_check.proofs.checker.Checker.turn.Goals as goal

pub returns-in_err-ended-clause-err : goal.returns-in_err-ended-clause-err
returns-in_err-ended-clause-err g c =
    let e = err_from_is_err_and c.from_residual.result c.from_residual.ensures.1 in
    turn_cut c.from_residual.result e.0 _ _ _ _ _ _ e.1 e.2 c.in_err-ended.ensures.err

pub returns-in-Limit-clause-err : goal.returns-in-Limit-clause-err
returns-in-Limit-clause-err g c = turn_limit _ _ _ _ _ _ c.in-Limit.is c.in_ok-ended.ensures.ok

pub returns-in_err-take-in-Line-clause-err : goal.returns-in_err-take-in-Line-clause-err
returns-in_err-take-in-Line-clause-err g c =
    let e = err_from_is_err_and c.from_residual-in_err-take-in-Line.result
    c.from_residual-in_err-take-in-Line.ensures.1 in
    turn_refused c.from_residual-in_err-take-in-Line.result e.0 c.in_err-take-in-Line.field-0.0 _ c.in-Line.ended _
    c.line.result.now _ _ _ _ e.1 e.2 c.refusal_is_final.ensures c.in-Line.is c.in_ok-ended.ensures.ok c.line.ensures
    c.in_err-take-in-Line.ensures.err

pub returns-in_ok-take-in-Line-clause-ok : goal.returns-in_ok-take-in-Line-clause-ok
returns-in_ok-take-in-Line-clause-ok g c =
    turn_taken c.in_ok-take-in-Line.field-0 _ c.in-Line.ended _ _ c.line.result.now _ _ _ _ c.in-Line.is
    c.in_ok-ended.ensures.ok c.line.ensures c.in_ok-take-in-Line.ensures.ok

pub returns-in-End-clause-err : goal.returns-in-End-clause-err
returns-in-End-clause-err g c =
    turn_ended c.missing_line.result _ _ _ _ _ _ c.missing_line.ensures c.in-End.is c.in_ok-ended.ensures.ok

pub returns-in_err-ended-clause-numbers : goal.returns-in_err-ended-clause-numbers
returns-in_err-ended-clause-numbers g c =
    let e = err_from_is_err_and c.from_residual.result c.from_residual.ensures.1 in
    rw (e.1, e.2) (lines_never _ _)

pub returns-in_err-take-in-Line-clause-numbers : goal.returns-in_err-take-in-Line-clause-numbers
returns-in_err-take-in-Line-clause-numbers g c =
    let x = c.from_residual-in_err-take-in-Line in
    let e = err_from_is_err_and x.result x.ensures.1 in
    rw (e.1, e.2) (at_last _ _ _ c.in_err-take-in-Line.ensures.numbers)

pub returns-in-End-clause-numbers : goal.returns-in-End-clause-numbers
returns-in-End-clause-numbers g c = rw c.missing_line.ensures tt
