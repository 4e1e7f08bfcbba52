use Rattle.sb_regex.proofs.CallerLemmas.{number_in}
use Rattle.sb_members.proofs.Stronger.{fronts_start, front_dropped, front_kept, fronts_done}
use Rattle.sb_members.proofs.needed.longest_fronts.Goals.{then-not-follows_at+in_ok-push, else-not-follows_at}
use Rattle.sb_members.proofs.needed.longest_fronts.Goals as goal

pub loop-i-init : goal.loop-i-init
loop-i-init c = fronts_start c.args.arena.now c.args.parts.now c.new-kept.result.items c.new-kept.ensures.items

pub loop-i-preserved : goal.loop-i-preserved
loop-i-preserved c =
    let rs = c.args.arena.now in
    let parts = c.args.parts.now in
    elim c.if-not-follows_at.branch [
      | then-not-follows_at+in_ok-push w ↦ rw w.kept-is
          (front_kept rs parts c.loop-i.kept.items _ c.loop-i.i w.index-parts-i.result c.loop-i-test.true
          (number_in rs parts c.loop-i.i _ c.requires c.loop-i-test.true w.index-parts-i.is) w.index-parts-i.is
          w.in_ok-push.ensures.items c.loop-i.invariant)
      | else-not-follows_at w ↦ rw w.kept-is
          (front_dropped rs parts c.loop-i.kept.items c.loop-i.i 0 c.loop-i-test.true
          (c.follows_at.ensures w.if-not-follows_at.false) c.loop-i.invariant)
    ]

pub returns-clause-same : goal.returns-clause-same
returns-clause-same c =
    fronts_done c.args.arena.now c.args.parts.now c.loop-i.kept.items c.loop-i.i c.loop-i-test.false c.loop-i.invariant
