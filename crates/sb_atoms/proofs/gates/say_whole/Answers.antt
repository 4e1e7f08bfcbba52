use Rattle.std.proofs.Common.{[], ◌∷◌, true}
use Rattle.sb_lit.specs.Clauses.{negation}
use Rattle.sb_rulebook.specs.Gates.{gate}
use Rattle.sb_atoms.proofs.Gathering.{mapped-more}
use Rattle.sb_atoms.proofs.gates.say_whole.Goals as goal

pub loop-literal-preserved : goal.loop-literal-preserved
loop-literal-preserved c =
    mapped-more negation c.args.literals.now c.loop-literal.literal-index _ (gate c.args.atom true ∷ []) _ _ _
    c.loop-literal-test.true c.loop-literal.invariant c.negated.ensures c.in_ok-push-2.ensures.items
