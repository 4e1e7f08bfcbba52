use Rattle.sb_search.proofs.Places.{given_open, no_value}
use Rattle.sb_search.proofs.stage.given.Goals as goal

pub returns-then-is_none : goal.returns-then-is_none
returns-then-is_none c = given_open c.args.trail.now c.args.literal
    (no_value c.literal_value.result _ c.if-is_none.ensures c.literal_value.ensures.atom)
