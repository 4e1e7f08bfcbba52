use Rattle.sb_sound.proofs.SoundLevels.{verdict_means}
use Rattle.sb_sound.proofs.steps.verdict_means_so.Goals as goal

pub returns : goal.returns
returns c = verdict_means c.unsat_is_refuted.ensures c.named_are_refuted.ensures c.sat_is_model.ensures
    c.unknown_is_counted.ensures c.unsupported_is_outside.ensures
