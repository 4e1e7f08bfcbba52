use Rattle.sb_search.proofs.Words.{◌≡◌, ◌∙◌, ap, subst, arith, Assignments, IsTrail, current_level, common_steps}
use Rattle.sb_search.proofs.Turns.{searching_free}
use Rattle.sb_search.proofs.turn.decide_free.Goals as goal

pub returns-clause-searching : goal.returns-clause-searching
returns-clause-searching c = λ wanted assumptions h given.
    let at : c.current_level.result ≡ current_level c.args.engine.now.trail.literals =
    c.current_level.ensures ∙ ap (λ (t : Assignments). current_level t.literals) c.trail-trail.ensures in
    rw c.decide.ensures
    (searching_free wanted assumptions c.args.stage.now.levels c.args.stage.now.next c.lower-stage.result
    c.args.engine.now c.args.literal
    (subst (λ (t : Assignments). IsTrail t) c.trail-trail.ensures c.literals-before.ensures.trail)
    c.requires.settled c.lower-stage.ensures.one (omega (arith, at, c.lower-stage.ensures.other))
    (λ low. c.lower-stage.ensures.is_one (omega (arith, low, at))) h given)

pub returns-clause-within : goal.returns-clause-within
returns-clause-within c = grind (arith, common_steps)
