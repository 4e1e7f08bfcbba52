use Rattle.std.proofs.Common.{◌≡◌, ◌∷◌, [], drop}
use Rattle.std.specs.List.{list_any}
use Rattle.sb_rulebook.specs.Gates.{is_set_of}
use Rattle.sb_rules.proofs.gates.has_any.Given as goal

abbrev pub invariant-loop-conjunct : goal.invariant-loop-conjunct
invariant-loop-conjunct l =
    list_any (λ m. is_set_of l.clause (l.literal ∷ m ∷ [])) (drop l.conjunct-index l.conjuncts)
    ≡ list_any (λ m. is_set_of l.clause (l.literal ∷ m ∷ [])) l.conjuncts
