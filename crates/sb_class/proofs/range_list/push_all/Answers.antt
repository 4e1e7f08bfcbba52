use Rattle.std.proofs.Common.{◌+◌, drop}
use Rattle.std.proofs.lemmas.List.{drop_more, drop_all}
use Rattle.sb_class.proofs.RangeFacts.{range_at}
use Rattle.sb_class.proofs.Merging.{first_fits, rest_fits, all_pushed_more, all_pushed_end}
use Rattle.sb_class.proofs.range_list.push_all.Goals as goal

pub push-requires-clause-fits : goal.push-requires-clause-fits
push-requires-clause-fits c =
    let rs = c.args.ranges.now in
    let i = c.loop-range.range-index in
    first_fits c.loop-range.out.items (range_at rs i) (drop (i + 1) rs)
    (rw (drop_more rs i (0, 0) c.loop-range-test.true) at c.loop-range.invariant.1)

pub loop-range-preserved : goal.loop-range-preserved
loop-range-preserved c =
    let rs = c.args.ranges.now in
    let i = c.loop-range.range-index in
    let step = drop_more rs i (0, 0) c.loop-range-test.true in
    let out = c.loop-range.out.items in
    let pushed = c.in_ok-push.ensures in (
      pushed.canonical,
      rest_fits out _ (range_at rs i) (drop (i + 1) rs) (rw step at c.loop-range.invariant.1) pushed,
      all_pushed_more c.args.out.now.items out _ rs (range_at rs i) (drop (i + 1) rs) pushed
          (rw step at c.loop-range.invariant.2),
    )

pub returns-clause-members : goal.returns-clause-members
returns-clause-members c =
    all_pushed_end c.args.out.now.items c.loop-range.out.items c.args.ranges.now
    (rw (drop_all c.loop-range.range-index c.args.ranges.now c.loop-range-test.false) at c.loop-range.invariant.2)
