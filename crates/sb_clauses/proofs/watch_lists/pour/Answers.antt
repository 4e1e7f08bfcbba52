use Rattle.std.proofs.Common.{sym, ◌∙◌}
use Rattle.sb_clauses.proofs.Moving.{pouring_more, poured, popped_none}
use Rattle.sb_clauses.proofs.watch_lists.pour.Goals as goal

pub loop-node-preserved : goal.loop-node-preserved
loop-node-preserved c =
    rw (c.push.ensures, c.pop.ensures.rest)
    (pouring_more c.args.from c.args.to c.in-Some.node c.args.lists.now c.loop-node.lists c.requires.from
    c.requires.to c.requires.apart (sym c.in-Some.is ∙ c.pop.ensures.first) c.loop-node.invariant)

pub returns : goal.returns
returns c =
    let ends = sym c.in_default.is ∙ c.pop.ensures.first in
    rw (c.pop.ensures.rest, popped_none c.loop-node.lists.lists c.args.from ends)
    (poured c.args.from c.args.to c.args.lists.now c.loop-node.lists ends c.loop-node.invariant)
