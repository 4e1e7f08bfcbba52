use Rattle.sb_sound.proofs.AlongFacts.{goes_on_behind}
use Rattle.sb_sound.proofs.certified.certified_goes_on.Goals as goal

pub returns : goal.returns
returns c =
    goes_on_behind c.texts_are_lines.ensures c.text_is_one_line.ensures c.check_takes_printed_lines.ensures
    c.check_goes_through_in_order.ensures c.events_are_met_in_order.ensures
