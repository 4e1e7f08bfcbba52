use Rattle.sb_regex.proofs.CallerLemmas.{number_in}
use Rattle.sb_members.proofs.Splits.{choice_more, choice_done}
use Rattle.sb_members.proofs.divide.choose_among.Goals as goal

pub loop-part-preserved : goal.loop-part-preserved
loop-part-preserved c =
    let i = c.loop-part.invariant in
    let e = c.in_ok-put_part.ensures in
    let rs = c.args.arena.now in
    let x = number_in rs c.args.parts.now c.loop-part.part-index c.part-item.result c.requires c.loop-part-test.true
    c.part-item.is in
    record {
      whole = e.whole rs x i.whole;
      divided = e.divided rs x i.divided;
      both = λ u. choice_more rs c.args.parts.now c.loop-part.part-index c.part-item.result c.loop-part-test.true
          c.part-item.is c.loop-part.whole.items c.loop-part.divided.items _ _ u _ (e.both rs u) (i.both u);
    }

pub returns-clause-both : goal.returns-clause-both
returns-clause-both c = λ u.
    choice_done c.args.arena.now c.args.parts.now c.loop-part.whole.items c.loop-part.divided.items
    c.loop-part.part-index c.loop-part-test.false u _ (c.loop-part.invariant.both u)

pub returns-clause-whole : goal.returns-clause-whole
returns-clause-whole c = c.loop-part.invariant.whole

pub returns-clause-divided : goal.returns-clause-divided
returns-clause-divided c = c.loop-part.invariant.divided
