use Rattle.sb_search.proofs.Words.{sym, ◌∙◌}
use Rattle.sb_search.proofs.Due.{lowest_none, lowest_open, lowest_true}
use Rattle.sb_search.proofs.lemma.lowest_level.Goals as goal

pub returns-in_default : goal.returns-in_default
returns-in_default c = lowest_none c.args.trail.now.literals c.args.clause.now c.in_default.ensures

pub returns-then-is_true_up_to : goal.returns-then-is_true_up_to
returns-then-is_true_up_to c =
    rw c.current_level.ensures
    (lowest_true c.args.trail.now c.args.clause.now c.in-Some.last c.second_level-level.result
    c.literals-entries.ensures.trail c.literals-entries.ensures.consistent c.second_level-level.ensures
    (sym c.is_true_up_to.ensures ∙ c.if-is_true_up_to.true))

pub returns-else-is_true_up_to : goal.returns-else-is_true_up_to
returns-else-is_true_up_to c =
    lowest_open c.args.trail.now c.args.clause.now c.in-Some.last c.second_level-level.result
    c.literals-entries.ensures.trail c.second_level-level.ensures
    (sym c.is_true_up_to.ensures ∙ c.if-is_true_up_to.false)
