use Rattle.sb_sound.proofs.MembershipFacts.{empty_holds}
use Rattle.sb_sound.proofs.memberships.empty_holds.Goals as goal

pub returns : goal.returns
returns c = empty_holds c.order_tells_apart.ensures c.intersection_is_of_each.ensures
    c.mkand_keeps_language.ensures c.mknot_keeps_language.ensures
