use Rattle.std.proofs.Common.{◌≡◌, ◌++◌, take, drop, option_map}
use Rattle.sb_rulebook.specs.Reading.{around_colon}
use Rattle.sb_proof.specs.Views.{texts}
use Rattle.sb_proof.proofs.read.around_colon.Given as goal

abbrev pub invariant-loop-at : goal.invariant-loop-at
invariant-loop-at l =
    around_colon (texts l.fields)
    ≡ option_map (λ p. (texts (take l.at l.fields) ++ p.0, p.1)) (around_colon (texts (drop l.at l.fields)))
