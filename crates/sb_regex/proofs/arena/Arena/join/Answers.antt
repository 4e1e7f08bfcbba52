use Rattle.std.proofs.lemmas.Result.{IfOk-from_err}
use Rattle.sb_regex.proofs.Building.{normal_at}
use Rattle.sb_regex.proofs.Spines.{joined}
use Rattle.sb_regex.proofs.CallerLemmas.{extends_same}
use Rattle.sb_regex.proofs.arena.Arena.join.Goals as goal

pub lean-requires-clause-normal : goal.lean-requires-clause-normal
lean-requires-clause-normal c =
    let rs = c.args.self.now in
    let n = c.normal_regexes_each_once.ensures.normal in
    let left = normal_at rs c.args.a n c.requires.left in
    rw (
      c.deref.ensures.value,
      joined c.order_tells_apart.ensures rs c.in_ok-spine.spine.heads.items c.push.new.self.items
          c.in_ok-spine.spine.last c.args.a c.args.b c.in_ok-spine.ensures.value c.in_ok-spine.ensures.ends left
          c.requires.left_is_plain c.requires.right_is_plain c.in_ok-push.ensures.items,
    )
    (c.constructors_give_normal.ensures.concatenations _ _ left (normal_at rs c.args.b n c.requires.right))

pub returns : goal.returns
returns c =
    record {
      ok = let rs = c.args.self.now in
          let left = normal_at rs c.args.a c.normal_regexes_each_once.ensures.normal c.requires.left in
          rw (
            ← joined c.order_tells_apart.ensures rs c.in_ok-spine.spine.heads.items c.push.new.self.items
                c.in_ok-spine.spine.last c.args.a c.args.b c.in_ok-spine.ensures.value c.in_ok-spine.ensures.ends left
                c.requires.left_is_plain c.requires.right_is_plain c.in_ok-push.ensures.items,
            ← c.deref.ensures.value,
          )
          (c.lean.ensures.ok);
      extends = c.lean.ensures.extends;
    }

pub returns-in_err-spine : goal.returns-in_err-spine
returns-in_err-spine c =
    let x = c.from_residual in
    record {
      ok = IfOk-from_err x.result _ x.ensures.0;
      extends = extends_same c.args.self.now;
    }

pub returns-in_err-push : goal.returns-in_err-push
returns-in_err-push c =
    let x = c.from_residual-in_err-push in
    record {
      ok = IfOk-from_err x.result _ x.ensures.0;
      extends = extends_same c.args.self.now;
    }
