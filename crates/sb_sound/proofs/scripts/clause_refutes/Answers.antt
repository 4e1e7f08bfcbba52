use Rattle.sb_sound.proofs.ScriptTruth.{clause_refutes}
use Rattle.sb_sound.proofs.scripts.clause_refutes.Goals as goal

pub returns : goal.returns
returns c = clause_refutes
