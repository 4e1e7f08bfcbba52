use Rattle.std.proofs.Common.{[]}
use Rattle.sb_lit.specs.Clauses.{negation}
use Rattle.sb_atoms.proofs.Gathering.{mapped-more, mapped-all}
use Rattle.sb_atoms.proofs.connect.negations.Goals as goal

pub loop-literal-preserved : goal.loop-literal-preserved
loop-literal-preserved c =
    mapped-more negation c.args.literals.now c.loop-literal.literal-index _ [] _ _ _ c.loop-literal-test.true
    c.loop-literal.invariant c.negated.ensures c.in_ok-push.ensures.items

pub returns : goal.returns
returns c =
    mapped-all negation c.args.literals.now c.loop-literal.literal-index [] _ c.loop-literal-test.false
    c.loop-literal.invariant
