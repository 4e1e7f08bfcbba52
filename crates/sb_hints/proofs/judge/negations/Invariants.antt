use Rattle.std.proofs.Common.{◌≡◌, map, take}
use Rattle.std.specs.HashSet.{contains}
use Rattle.sb_lit.specs.declared.clause.Lit.{Lit}
use Rattle.sb_lit.specs.Clauses.{negation, is_among}
use Rattle.sb_hints.specs.Listing.{are_equal}
use Rattle.sb_hints.proofs.judge.negations.Given as goal

abbrev pub invariant-loop-literal : goal.invariant-loop-literal
invariant-loop-literal l = (m : Lit)
    → contains are_equal l.all m ≡ is_among (map negation (take l.literal-index l.literals)) m
