use Rattle.sb_sound.proofs.AlongFacts.{follows_so_far}
use Rattle.sb_sound.proofs.certified.certified_follows.Goals as goal

pub returns : goal.returns
returns c =
    follows_so_far c.texts_are_lines.ensures c.text_is_one_line.ensures c.check_takes_printed_lines.ensures
    c.check_goes_through_in_order.ensures c.events_are_met_in_order.ensures
