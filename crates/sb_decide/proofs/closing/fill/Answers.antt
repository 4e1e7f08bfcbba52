use Rattle.sb_decide.proofs.Words.{◌<◌, length, arith, nat_tests}
use Rattle.sb_decide.proofs.Constants.{filling_more}
use Rattle.sb_decide.proofs.closing.fill.Goals as goal

pub loop-alloc-preserved : goal.loop-alloc-preserved
loop-alloc-preserved c =
    let few : length c.loop-alloc.words.items < c.args.count =
    grind (arith, nat_tests, c.loop-alloc-test.true, c.len.ensures) in
    filling_more c.args.words.now.items c.loop-alloc.words.items c.push.new.self.items c.args.count
    c.in_ok-word_of.field-0 c.loop-alloc.invariant few c.in_ok-push.ensures.items c.in_ok-word_of.ensures.exact
