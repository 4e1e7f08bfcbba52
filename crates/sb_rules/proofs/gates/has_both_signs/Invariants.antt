use Rattle.std.proofs.Common.{◌≡◌, drop}
use Rattle.std.specs.List.{list_any}
use Rattle.sb_lit.specs.Clauses.{negation, is_among}
use Rattle.sb_rules.proofs.gates.has_both_signs.Given as goal

abbrev pub invariant-loop-literal : goal.invariant-loop-literal
invariant-loop-literal l =
    list_any (λ m. is_among l.clause (negation m)) (drop l.literal-index l.clause)
    ≡ list_any (λ m. is_among l.clause (negation m)) l.clause
