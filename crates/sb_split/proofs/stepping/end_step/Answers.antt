use Rattle.sb_split.proofs.Words.{ap, IfOk-weaker, of_sign, regex_at}
use Rattle.sb_split.proofs.StepFacts.{end_is, given_more}
use Rattle.sb_split.proofs.stepping.end_step.Goals as goal

pub returns : goal.returns
returns c =
    IfOk-weaker c.step_over.result _ _
    (λ answer over. given_more _ _ answer
    (λ step. end_is c.args.literal.atom (regex_at c.args.arena.now c.args.regex) _ step
    (ap (λ b. of_sign b c.args.literal.atom) c.nullable.ensures)) over) c.step_over.ensures
