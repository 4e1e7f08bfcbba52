use Rattle.std.proofs.Common.{[], ◌∷◌}
use Rattle.sb_lit.specs.Clauses.{negation}
use Rattle.sb_rules.proofs.Gathering.{mapped-more, mapped-all}
use Rattle.sb_rules.proofs.gates.with_denials.Goals as goal

pub loop-conjunct-preserved : goal.loop-conjunct-preserved
loop-conjunct-preserved c =
    mapped-more negation c.args.conjuncts.now c.loop-conjunct.conjunct-index _ (c.args.literal ∷ []) _ _ _
    c.loop-conjunct-test.true c.loop-conjunct.invariant c.negated.ensures c.in_ok-push-2.ensures.items

pub returns : goal.returns
returns c =
    mapped-all negation c.args.conjuncts.now c.loop-conjunct.conjunct-index (c.args.literal ∷ []) _
    c.loop-conjunct-test.false c.loop-conjunct.invariant
