use Rattle.std.proofs.Common.{◌∙◌}
use Rattle.sb_deriv.proofs.Waiting.{room_same}
use Rattle.sb_deriv.proofs.deriver.make_room.Goals as goal

pub loop-memo-preserved : goal.loop-memo-preserved
loop-memo-preserved c = λ n. room_same c.loop-memo.memo.items c.push.new.self.items n c.in_ok-push.ensures.items
    ∙ c.loop-memo.invariant n
