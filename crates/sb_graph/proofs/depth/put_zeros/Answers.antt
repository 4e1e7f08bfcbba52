use Rattle.sb_graph.proofs.LeastWords.{zeros_begun, zeros_more}
use Rattle.sb_graph.proofs.depth.put_zeros.Goals as goal

pub loop-place-init : goal.loop-place-init
loop-place-init c = zeros_begun c.args.codes.now.items

pub loop-place-preserved : goal.loop-place-preserved
loop-place-preserved c =
    zeros_more c.loop-place._place c.args.codes.now.items c.loop-place.codes.items c.push.new.self.items
    c.loop-place.invariant c.in_ok-push.ensures.items
