use Rattle.std.proofs.Common.{◌≤◌, ◌||◌, length, ap, ◌∙◌, arith, drop}
use Rattle.std.proofs.lemmas.List.{drop_more, drop_all, take_rest}
use Rattle.sb_class.specs.Ranges.{in_ranges}
use Rattle.sb_class.proofs.Merging.{merge_start, merge_left, merge_right, merge_end_left, merge_end_right, first_fits}
use Rattle.sb_class.proofs.range_list.union.Goals as goal
use Rattle.sb_class.proofs.range_list.union.Goals.{then-loop-i-test+else-j-right, else-loop-i-test, then-i-left, else-i-left}

pub loop-i-init : goal.loop-i-init
loop-i-init c =
    (omega arith, omega arith, merge_start _ _ _ c.new-out.ensures.items c.requires.left c.requires.right)

pub push-requires-clause-fits : goal.push-requires-clause-fits
push-requires-clause-fits c =
    first_fits _ _ _ (rw (drop_more c.args.left.now c.loop-i.i (0, 0) c.loop-i-test.true) at
    c.loop-i.invariant.2.left_fits)

pub loop-i-preserved-then-left-i : goal.loop-i-preserved-then-left-i
loop-i-preserved-then-left-i c =
    let a = c.args.left.now in
    let b = c.args.right.now in
    let m = rw (drop_more a c.loop-i.i (0, 0) c.loop-i-test.true, drop_more b c.loop-i.j (0, 0) c.if-j-right.true) at
    c.loop-i.invariant.2 in (
      omega arith,
      c.loop-i.invariant.1,
      rw (drop_more b c.loop-i.j (0, 0) c.if-j-right.true)
          (merge_left a b _ _ _ _ _ _ m c.if-left-i.true c.in_ok-push.ensures),
    )

pub push-requires-else-left-i-clause-fits : goal.push-requires-else-left-i-clause-fits
push-requires-else-left-i-clause-fits c =
    first_fits _ _ _ (rw (drop_more c.args.right.now c.loop-i.j (0, 0) c.if-j-right.true) at
    c.loop-i.invariant.2.right_fits)

pub loop-i-preserved : goal.loop-i-preserved
loop-i-preserved c =
    let a = c.args.left.now in
    let b = c.args.right.now in
    let m = rw (drop_more a c.loop-i.i (0, 0) c.loop-i-test.true, drop_more b c.loop-i.j (0, 0) c.if-j-right.true) at
    c.loop-i.invariant.2 in (
      c.loop-i.invariant.0,
      omega arith,
      rw (drop_more a c.loop-i.i (0, 0) c.loop-i-test.true)
          (merge_right a b _ _ _ _ _ _ m (omega (arith, c.if-left-i.false)) c.in_ok-push-2.ensures),
    )

pub returns : goal.returns
returns c =
    let a = c.args.left.now in
    let b = c.args.right.now in
    let i = c.loop-i.i in
    let j = c.loop-i.j in
    let out = c.loop-i.out.items in
    let m = c.loop-i.invariant.2 in
    let all = c.in_ok-push_all.ensures.members in (
      c.in_ok-push_all.ensures.canonical,
      elim c.if-i-left.branch [
        | then-i-left w ↦
            let done : length b ≤ j = elim c.loop-i-test.branch [
              | then-loop-i-test+else-j-right v ↦ omega arith
              | else-loop-i-test v ↦ omega arith
            ] in
            merge_end_left a b out _ (drop i a) (rw (drop_all j b done) at m)
            (λ x. all x ∙ ap (λ l. in_ranges out x || in_ranges l.now x) w.rest-is
            ∙ ap (λ l. in_ranges out x || in_ranges l x) (take_rest a i))
        | else-i-left w ↦
            merge_end_right a b out _ (drop j b) (rw (drop_all i a w.if-i-left.false) at m)
            (λ x. all x ∙ ap (λ l. in_ranges out x || in_ranges l.now x) w.rest-is
            ∙ ap (λ l. in_ranges out x || in_ranges l x) (take_rest b j))
      ],
    )
