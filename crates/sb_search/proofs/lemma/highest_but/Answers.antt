use Rattle.sb_search.proofs.Highest.{highest_turn}
use Rattle.sb_search.proofs.lemma.highest_but.Goals as goal

pub loop-literal-preserved : goal.loop-literal-preserved
loop-literal-preserved c =
    highest_turn c.args.trail.now.literals c.args.but c.loop-literal.best _ c.args.clause.now
    c.loop-literal.literal-index _ c.loop-literal-test.true c.loop-literal.invariant c.higher-best.ensures
