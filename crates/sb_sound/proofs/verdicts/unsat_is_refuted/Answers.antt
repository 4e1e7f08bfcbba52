use Rattle.sb_sound.proofs.VerdictFacts.{unsat_refutes}
use Rattle.sb_sound.proofs.verdicts.unsat_is_refuted.Goals as goal

pub returns : goal.returns
returns c = unsat_refutes
