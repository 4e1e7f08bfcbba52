use Rattle.sb_fragment.proofs.ComparedPairs.{put_more, put_all}
use Rattle.sb_fragment.proofs.pairs.put_with_each.Goals as goal

pub loop-other-preserved : goal.loop-other-preserved
loop-other-preserved g c =
    put_more (λ other. (c.args.first, other)) c.args.others.now c.loop-other.other-index c.other-item.result
    c.args.found.now.items c.loop-other.found.items c.push.new.self.items c.loop-other-test.true c.other-item.is
    c.loop-other.invariant c.in_ok-push.ensures.items

pub returns : goal.returns
returns g c =
    put_all (λ other. (c.args.first, other)) c.args.others.now c.loop-other.other-index c.args.found.now.items
    c.loop-other.found.items c.loop-other-test.false c.loop-other.invariant
