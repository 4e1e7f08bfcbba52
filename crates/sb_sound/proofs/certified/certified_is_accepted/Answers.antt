use Rattle.sb_sound.proofs.AlongFacts.{all_accepted}
use Rattle.sb_sound.proofs.certified.certified_is_accepted.Goals as goal

pub returns : goal.returns
returns c =
    all_accepted c.texts_are_lines.ensures c.text_is_one_line.ensures c.check_takes_printed_lines.ensures
    c.check_goes_through_in_order.ensures c.events_are_met_in_order.ensures c.printed_proof_goes_along.ensures
