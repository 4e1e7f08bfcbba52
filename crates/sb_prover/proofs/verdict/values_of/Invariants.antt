use Rattle.sb_prover.proofs.Words.{◌≡◌, map, take, live_in, said_value}
use Rattle.sb_proof.specs.Lines.{value_in}
use Rattle.sb_prover.proofs.verdict.values_of.Given as goal

abbrev pub invariant-loop-constant : goal.invariant-loop-constant
invariant-loop-constant l =
    map value_in l.values.items
    ≡ map (said_value l.words l.truths) (map live_in (take l.constant-index l.constants))
