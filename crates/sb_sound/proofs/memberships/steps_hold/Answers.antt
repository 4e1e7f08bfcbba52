use Rattle.sb_sound.proofs.MembershipFacts.{steps_hold}
use Rattle.sb_sound.proofs.memberships.steps_hold.Goals as goal

pub returns : goal.returns
returns c = steps_hold c.nullable_has_empty_word.ensures c.order_tells_apart.ensures
    c.derivative_along_has_rests.ensures c.mkpath_keeps_language.ensures
