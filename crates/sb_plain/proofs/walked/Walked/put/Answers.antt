use Rattle.std.proofs.Common.{length}
use Rattle.sb_plain.proofs.Staying.{stay_alike}
use Rattle.sb_plain.proofs.walked.Walked.put.Goals as goal

pub returns : goal.returns
returns c = λ rs walked l stay.
    c.keep.ensures rs (c.in_ok-turn_to.ensures.right rs walked) l
    (stay_alike rs c.args.regex c.turn_to.new.self.0 c.args.codes.now c.args.stay (length c.args.codes.now)
    c.in_ok-turn_to.ensures.word stay.within stay)
