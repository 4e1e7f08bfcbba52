use Rattle.std.proofs.Common.{arith}
use Rattle.std.proofs.lemmas.List.{drop_more, drop_all}
use Rattle.sb_class.proofs.RangeFacts.{range_at}
use Rattle.sb_class.proofs.Gaps.{gaps_start, gaps_add, gaps_skip, gaps_end_add, gaps_end_skip, gap_fits}
use Rattle.sb_class.proofs.range_list.complement.Goals as goal
use Rattle.sb_class.proofs.range_list.complement.Goals.{then-next-range+in_ok-push, else-next-range, then-next-le-LAST_CHARACTER+in_ok-push-2, else-next-le-LAST_CHARACTER}

pub loop-range-init : goal.loop-range-init
loop-range-init c = gaps_start _ _ c.new-out.ensures.items c.requires

pub overflow_add-next : goal.overflow_add-next
overflow_add-next c =
    let rs = c.args.ranges.now in
    let i = c.loop-range.range-index in
    let g = rw (drop_more rs i (0, 0) c.loop-range-test.true) at c.loop-range.invariant in
    omega (arith, gap_fits rs _ (range_at rs i) _ _ g)

pub loop-range-preserved : goal.loop-range-preserved
loop-range-preserved c =
    let rs = c.args.ranges.now in
    let i = c.loop-range.range-index in
    let g = rw (drop_more rs i (0, 0) c.loop-range-test.true) at c.loop-range.invariant in
    elim c.if-next-range.branch [
      | then-next-range+in_ok-push w ↦ rw w.out-is
          (gaps_add rs _ _ (range_at rs i) _ _ g w.if-next-range.true w.in_ok-push.ensures.items)
      | else-next-range w ↦ rw w.out-is (gaps_skip rs _ (range_at rs i) _ _ g w.if-next-range.false)
    ]

pub returns : goal.returns
returns c =
    let rs = c.args.ranges.now in
    let g = rw (drop_all c.loop-range.range-index rs c.loop-range-test.false) at c.loop-range.invariant in
    elim c.if-next-le-LAST_CHARACTER.branch [
      | then-next-le-LAST_CHARACTER+in_ok-push-2 w ↦ rw w.out-is
          (gaps_end_add rs _ _ _ g w.if-next-le-LAST_CHARACTER.true w.in_ok-push-2.ensures.items)
      | else-next-le-LAST_CHARACTER w ↦ rw w.out-is (gaps_end_skip rs _ _ g w.if-next-le-LAST_CHARACTER.false)
    ]
