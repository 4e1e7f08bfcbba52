use Rattle.std.proofs.Common.{refl}
use Rattle.sb_word.specs.Spelling.{spelled_in}
use Rattle.sb_word.proofs.FrontLemmas.{one_more_read}
use Rattle.sb_word.proofs.read.read_word.Goals as goal

pub loop-place-preserved : goal.loop-place-preserved
loop-place-preserved c =
    one_more_read c.args.bytes.now c.loop-place.codes.items c.push.new.self.items c.loop-place.place _
    (spelled_in c.in-Some.front) c.loop-place.invariant c.in-Some.ensures c.in_ok-push.ensures.items refl
