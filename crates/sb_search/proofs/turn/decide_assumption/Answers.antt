use Rattle.sb_search.proofs.Words.{◌∙◌, ap, subst, arith, Assignments, IsTrail, current_level, State, common_steps}
use Rattle.sb_search.proofs.Turns.{searching_assumed}
use Rattle.sb_search.proofs.turn.decide_assumption.Goals as goal

pub returns-clause-searching : goal.returns-clause-searching
returns-clause-searching c = λ wanted assumptions h among le.
    rw c.decide.ensures
    (searching_assumed wanted assumptions c.args.stage.now.levels c.args.stage.now.next c.current_level-stage.result
    c.args.engine.now c.args.literal
    (subst (λ (t : Assignments). IsTrail t) c.trail-trail.ensures c.literals-before.ensures.trail)
    c.requires.settled
    (c.current_level-stage.ensures ∙ ap (λ (t : Assignments). current_level t.literals)
    (c.trail-after.ensures ∙ ap (λ (s : State). s.trail) c.decide.ensures)) h among le)

pub returns-clause-within : goal.returns-clause-within
returns-clause-within c = grind (arith, common_steps)
