use Rattle.sb_sound.proofs.ScriptHistory.{script_history}
use Rattle.sb_sound.proofs.proofs.script_is_history.Goals as goal

pub returns : goal.returns
returns c = script_history
