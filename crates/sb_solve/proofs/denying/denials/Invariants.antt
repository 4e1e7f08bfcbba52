use Rattle.std.specs.HashSet.{contains}
use Rattle.sb_solve.proofs.Words.{take, AreDenials, are_equal, claim_of}
use Rattle.sb_solve.proofs.denying.denials.Given as goal

abbrev pub invariant-loop-literal : goal.invariant-loop-literal
invariant-loop-literal l = AreDenials l.atoms (take l.literal-index l.clause)
    (λ a. contains are_equal l.claims (claim_of a))
