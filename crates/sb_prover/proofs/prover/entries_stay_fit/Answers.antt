use Rattle.sb_prover.proofs.FitSteps.{entries-fit}
use Rattle.sb_prover.proofs.prover.entries_stay_fit.Goals as goal

pub returns : goal.returns
returns c = entries-fit c.entries_lead_on.ensures.entries
