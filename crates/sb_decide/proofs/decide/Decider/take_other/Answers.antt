use Rattle.sb_decide.proofs.Words.{◌≡◌, [], ◌∷◌, ◌++◌, None, length, length-append, refl, ap, ◌∙◌, arith}
use Rattle.sb_decide.proofs.Constants.{put_none}
use Rattle.sb_decide.proofs.Knowledge.{stay_put, taken_more}
use Rattle.sb_decide.proofs.decide.Decider.take_other.Goals as goal

pub returns : goal.returns
returns c =
    let kept = c.args.self.now in
    let place : c.len-place.result ≡ length kept.members.items = omega (arith, c.len-place.ensures, kept.members.ok.0)
    in
    let one = length-append kept.members.items (None ∷ []) in
    record {
      taken = λ ts xs a low there other t.
          taken_more kept ts xs a None c.push-2.new.self c.push-3.new.self c.push.new.self kept.constants kept.changed
          t low there other tt c.in_ok-push-2.ensures.items c.in_ok-push-3.ensures.items
          (c.in_ok-push.ensures.items ∙ ap (λ i. kept.others.items ++ i ∷ []) place)
          (put_none (length kept.members.items) kept.constants.items) t.counted.settled t.counted.listed;
      words = stay_put kept
          (record kept { members = c.push-2.new.self; roots = c.push-3.new.self; others = c.push.new.self }) None
          (length kept.members.items) c.in_ok-push-2.ensures.items
          (put_none (length kept.members.items) kept.constants.items) (λ words k. k);
      further = omega (arith, ap length c.in_ok-push-2.ensures.items, one);
      same = (refl, refl);
    }
