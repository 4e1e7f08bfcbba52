use Rattle.std.proofs.Common.{[], ap}
use Rattle.sb_proof.specs.declared.line.Class.{Class}
use Rattle.sb_rules.proofs.Gathering.{mapped-more, mapped-all}
use Rattle.sb_rules.proofs.expansions.numbers_of.Goals as goal

pub loop-class-preserved : goal.loop-class-preserved
loop-class-preserved c =
    mapped-more (λ (k : Class). k.target) c.args.classes.now c.loop-class.class-index c.class-item.result [] _ _ _
    c.loop-class-test.true c.loop-class.invariant (ap (λ (k : Class). k.target) c.class-item.is)
    c.in_ok-push.ensures.items

pub returns : goal.returns
returns c =
    mapped-all (λ (k : Class). k.target) c.args.classes.now c.loop-class.class-index [] _ c.loop-class-test.false
    c.loop-class.invariant
