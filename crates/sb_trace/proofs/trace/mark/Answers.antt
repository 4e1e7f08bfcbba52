use Rattle.std.proofs.Common.{◌<◌, true, length, refl, ◌∙◌, arith}
use Rattle.std.proofs.lemmas.List.{length-set}
use Rattle.sb_trace.proofs.Positions.{number-below}
use Rattle.sb_trace.proofs.Marks.{mark_more, mark_all, mark_elsewhere}
use Rattle.sb_trace.proofs.trace.mark.Goals as goal

pub loop-regex-init : goal.loop-regex-init
loop-regex-init c = record { marks = λ numbers h n. refl; long = refl; stay = λ n l. refl }

pub index_mut-requires : goal.index_mut-requires
index_mut-requires c =
    let low = number-below c.args.order.now.keys c.regex-item.result c.number_of.result c.number_of.ensures in
    omega (arith, low, c.requires.room, c.loop-regex.invariant.long, c.loop-regex.dead.ok.0)

pub loop-regex-preserved : goal.loop-regex-preserved
loop-regex-preserved c =
    let before = c.loop-regex.invariant in
    let low = number-below c.args.order.now.keys c.regex-item.result c.number_of.result c.number_of.ensures in
    let within : c.number_of.result < length c.loop-regex.dead.items =
    omega (arith, low, c.requires.room, before.long) in
    record {
      marks = λ numbers h n.
          mark_more c.args.order.now.keys c.args.regexes.now numbers c.loop-regex.regex-index c.regex-item.result
          c.number_of.result c.loop-regex.dead.items c.args.dead.now.items n h c.loop-regex-test.true c.regex-item.is
          c.number_of.ensures within (before.marks numbers h n);
      long = length-set c.loop-regex.dead.items c.number_of.result true ∙ before.long;
      stay = λ n l.
          mark_elsewhere c.loop-regex.dead.items c.args.dead.now.items c.number_of.result n within
          (omega (arith, low, l)) (before.stay n l);
    }

pub returns : goal.returns
returns c =
    let before = c.loop-regex.invariant in
    record {
      marks = λ numbers h n.
          mark_all c.args.order.now.keys c.args.regexes.now numbers c.loop-regex.regex-index c.loop-regex.dead.items
          c.args.dead.now.items n h c.loop-regex-test.false (before.marks numbers h n);
      long = before.long;
      stay = before.stay;
    }
