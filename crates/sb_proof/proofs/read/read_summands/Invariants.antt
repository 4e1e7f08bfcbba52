use Rattle.std.proofs.Common.{◌≡◌, ◌++◌, map, option_map, length}
use Rattle.sb_rulebook.specs.Reading.{summands}
use Rattle.sb_proof.specs.Lines.{summand_in}
use Rattle.sb_proof.specs.Views.{texts}
use Rattle.sb_proof.proofs.read.read_summands.Given as goal

abbrev pub invariant-loop-left : goal.invariant-loop-left
invariant-loop-left l =
    summands (texts l.fn.fields)
    ≡ option_map (λ xs. map summand_in l.summands.items ++ xs) (summands (texts l.left))

abbrev pub decreases-loop-left : goal.decreases-loop-left
decreases-loop-left l = length l.left
