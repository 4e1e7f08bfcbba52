use Rattle.sb_clash.proofs.Words.{IfOk-from_err}
use Rattle.sb_clash.proofs.few.clash.Goals as goal

pub returns-in_err-least_word : goal.returns-in_err-least_word
returns-in_err-least_word c =
    let r = c.from_residual in
    record { clash = IfOk-from_err r.result _ r.ensures.0; explores = c.least_word.ensures.explores }
