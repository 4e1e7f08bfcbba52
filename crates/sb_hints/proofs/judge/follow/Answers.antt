use Rattle.std.proofs.Common.{◌+◌, drop, get_or, subst, arith}
use Rattle.std.specs.HashSet.{contains}
use Rattle.std.proofs.lemmas.List.{drop_more, drop_all}
use Rattle.sb_hints.specs.Listing.{are_equal}
use Rattle.sb_hints.specs.Following.{as_course}
use Rattle.sb_hints.proofs.Steps.{IsFollowed, follow_start, follow_next, followed}
use Rattle.sb_hints.proofs.judge.follow.Goals as goal

pub loop-id-init : goal.loop-id-init
loop-id-init c = follow_start c.args.kept.now (contains are_equal c.args.held.now) c.args.ids.now

pub loop-id-preserved : goal.loop-id-preserved
loop-id-preserved c =
    let l = c.loop-id in
    let ids = c.args.ids.now in
    let kept = c.args.kept.now in
    let first = contains are_equal c.args.held.now in
    let old = contains are_equal l.held in
    follow_next kept first old (contains are_equal c.with.new.held) (as_course l.course) (as_course
    c.in_ok-course.course)
    (get_or ids l.id-index 0) (drop (l.id-index + 1) ids) ids c.literals_at.result.now
    (subst (λ left. IsFollowed kept first old (as_course l.course) left ids)
    (drop_more ids l.id-index 0 c.loop-id-test.true) l.invariant) c.literals_at.ensures c.in_ok-course.ensures

pub returns : goal.returns
returns c = λ ls set.
    let l = c.loop-id in
    let ids = c.args.ids.now in
    let kept = c.args.kept.now in
    let first = contains are_equal c.args.held.now in
    let later = contains are_equal l.held in
    followed kept first later (as_course l.course) ids ls
    (subst (λ left. IsFollowed kept first later (as_course l.course) left ids)
    (drop_all l.id-index ids (omega (arith, c.loop-id-test.false))) l.invariant) set
