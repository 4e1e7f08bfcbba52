use Rattle.sb_sound.proofs.AcceptedFacts.{accepted_means}
use Rattle.sb_sound.proofs.proofs.accepted_means_so.Goals as goal

pub returns : goal.returns
returns c = accepted_means c.nothing_is_sound.ensures c.line_stays_sound.ensures c.follows_by_rule.ensures
    c.continued_stays_sound.ensures c.dropped_stays_sound.ensures c.all_dropped_is_sound.ensures
    c.counted_again_stays_sound.ensures c.verdict_means_so.ensures c.lines_are_counted.ensures
