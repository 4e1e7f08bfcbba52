use Rattle.std.proofs.lemmas.Result.{IfOk-weaker}
use Rattle.sb_term.proofs.CallerLemmas.{names_at, names_below}
use Rattle.sb_sorts.proofs.apply.constant.Goals as goal

pub returns-clause-value : goal.returns-clause-value
returns-clause-value c =
    IfOk-weaker c.add.result _ _ (λ id named. names_at c.add.new.self id _ named) c.add.ensures.ok

pub returns-clause-number : goal.returns-clause-number
returns-clause-number c =
    IfOk-weaker c.add.result _ _ (λ id named. names_below c.add.new.self id _ named) c.add.ensures.ok
