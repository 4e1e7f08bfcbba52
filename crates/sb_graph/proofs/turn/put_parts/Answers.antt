use Rattle.std.proofs.lemmas.Result.{on_ok_weaker}
use Rattle.sb_graph.proofs.WalkSteps.{put_members}
use Rattle.sb_graph.proofs.turn.put_parts.Goals as goal

pub returns-then-is_intersection-clause-put : goal.returns-then-is_intersection-clause-put
returns-then-is_intersection-clause-put c =
    on_ok_weaker c.put_each.result
    (λ is. put_members c.split.new.arena c.args.target c.args.way c.args.queue.now
    c.put_each.new.self c.in_ok-members.members.items c.deref.result.now c.in_ok-members.ensures.split
    c.deref.ensures.value is)
    c.put_each.ensures
