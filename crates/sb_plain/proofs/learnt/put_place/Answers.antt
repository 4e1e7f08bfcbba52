use Rattle.std.proofs.Common.{refl, ◌<◌}
use Rattle.sb_plain.proofs.PointFacts.{both, contained, put_seen, was_there, pushed_parts, all_pushed}
use Rattle.sb_plain.proofs.learnt.put_place.Goals as goal

pub returns-in_ok-push-clause-seen : goal.returns-in_ok-push-clause-seen
returns-in_ok-push-clause-seen c =
    put_seen c.args.place c.args.places.now.items c.push.new.self.items c.args.seen.now.keys c.insert.new.self.keys
    c.in_ok-push.ensures.items c.in_ok-insert.ensures.keys c.requires.seen

pub returns-else-branch-clause-put : goal.returns-else-branch-clause-put
returns-else-branch-clause-put c = λ t h.
    both (t c.args.place) _ (contained t c.args.place c.args.seen.now.keys (c.requires.seen t h)
    (was_there _ _ c.in_ok-insert.ensures.added c.if-branch.false)) refl

pub returns-in_ok-push-clause-kept : goal.returns-in_ok-push-clause-kept
returns-in_ok-push-clause-kept c =
    λ t h. (pushed_parts t c.args.places.now.items c.push.new.self.items c.args.place c.in_ok-push.ensures.items h).0

pub returns-in_ok-push-clause-put : goal.returns-in_ok-push-clause-put
returns-in_ok-push-clause-put c =
    λ t h. (pushed_parts t c.args.places.now.items c.push.new.self.items c.args.place c.in_ok-push.ensures.items h).1

pub returns-in_ok-push-clause-within : goal.returns-in_ok-push-clause-within
returns-in_ok-push-clause-within c =
    λ n l h. all_pushed (λ k. k < n) c.args.places.now.items c.push.new.self.items c.args.place
    c.in_ok-push.ensures.items h l
