use Rattle.std.specs.List.{list_any}
use Rattle.sb_members.proofs.Stronger.{is_pair, noting_next}
use Rattle.sb_members.proofs.needed.note.Goals as goal

pub returns-then-not-branch : goal.returns-then-not-branch
returns-then-not-branch c =
    (noting_next c.args.arena.now c.args.head c.args.rest c.loop-left.at c.in-Some.next c.args.weaker.now.keys
    c.loop-left.weaker.keys c.insert.new.self.keys
    (list_any (is_pair (c.args.head, c.in-Some.next)) c.loop-left.weaker.keys) c.loop-left.invariant c.in-Some.ensures
    c.in_ok-insert.ensures.keys).weaker

pub loop-left-preserved : goal.loop-left-preserved
loop-left-preserved c =
    noting_next c.args.arena.now c.args.head c.args.rest c.loop-left.at c.in-Some.next c.args.weaker.now.keys
    c.loop-left.weaker.keys c.insert.new.self.keys
    (list_any (is_pair (c.args.head, c.in-Some.next)) c.loop-left.weaker.keys) c.loop-left.invariant c.in-Some.ensures
    c.in_ok-insert.ensures.keys
