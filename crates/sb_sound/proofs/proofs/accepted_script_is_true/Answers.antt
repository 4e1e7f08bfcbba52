use Rattle.sb_sound.proofs.ScriptTruth.{script_true}
use Rattle.sb_sound.proofs.proofs.accepted_script_is_true.Goals as goal

pub returns : goal.returns
returns c = script_true c.accepted_script_means_so.ensures
