use Rattle.std.proofs.Common.{length, ap, sym, ◌∙◌}
use Rattle.sb_check.proofs.judge.Judge.leave.Goals as goal

pub returns-clause-models : goal.returns-clause-models
returns-clause-models c old new e longer is k =
    c.leave-2.ensures old new e longer (is ∙ ap length (sym c.assertions.ensures.value)) k
