use Rattle.sb_decide.proofs.Words.{arith}
use Rattle.sb_decide.proofs.PutWords.{put_taken}
use Rattle.sb_decide.proofs.closing.put_found.Goals as goal

pub loop-serial-preserved : goal.loop-serial-preserved
loop-serial-preserved c =
    let e = c.in_ok-put_one.ensures in (
      put_taken c.args.constants.now c.loop-serial.constants c.put_one.new.constants c.args.words.now
          c.loop-serial.words c.put_one.new.words c.args.serials.now c.loop-serial.serial-index _ c.args.found.now
          c.loop-serial-test.true c.requires.within c.requires.long c.loop-serial.invariant.0 e.put,
      e.settled,
      λ k d l. let one = e.listed k d l in omega (arith, one, c.loop-serial.invariant.0.same_length),
    )
