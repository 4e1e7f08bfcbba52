use Rattle.sb_prover.proofs.Words.{regexes_kept}
use Rattle.sb_prover.proofs.prover.regexes_stay_below.Goals as goal

pub returns : goal.returns
returns c = λ rs more atoms grows below. regexes_kept rs more atoms grows below
