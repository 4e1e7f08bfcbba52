use Rattle.sb_sound.proofs.SoundLines.{line_sound}
use Rattle.sb_sound.proofs.steps.line_stays_sound.Goals as goal

pub returns : goal.returns
returns c = line_sound c.gates_hold.ensures c.orders_hold.ensures c.linear_holds.ensures c.steps_hold.ensures
    c.empty_holds.ensures c.learned_holds.ensures c.learned_has_levels.ensures c.expanded_is_right.ensures
    c.dead_stays_empty.ensures c.translation_holds.ensures
