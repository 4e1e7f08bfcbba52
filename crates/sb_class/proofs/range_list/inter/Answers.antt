use Rattle.std.proofs.Common.{◌≡◌, ◌+◌, ◌∷◌, [], ◌⊎◌, inl, inr, arith, drop}
use Rattle.std.proofs.lemmas.List.{drop_more, drop_all}
use Rattle.sb_class.proofs.RangeFacts.{range_at}
use Rattle.sb_class.proofs.Meeting.{MetUpTo, meet_start, meet_add, meet_skip, meet_left, meet_right, meet_end}
use Rattle.sb_class.proofs.range_list.inter.Goals as goal
use Rattle.sb_class.proofs.range_list.inter.Goals.{then-start-end+in_ok-push, else-start-end, then-loop-i-test+else-j-right, else-loop-i-test}

pub loop-i-init : goal.loop-i-init
loop-i-init c =
    (omega arith, omega arith, meet_start _ _ _ c.new-out.ensures.items c.requires.left c.requires.right)

pub loop-i-preserved-then-left-i : goal.loop-i-preserved-then-left-i
loop-i-preserved-then-left-i c =
    let a = c.args.left.now in
    let b = c.args.right.now in
    let i = c.loop-i.i in
    let j = c.loop-i.j in
    let m = rw (drop_more a i (0, 0) c.loop-i-test.true, drop_more b j (0, 0) c.if-j-right.true) at c.loop-i.invariant.2
    in
    let met : MetUpTo a b c.if-start-end.out.items (range_at a i ∷ drop (i + 1) a) (range_at b j ∷ drop (j + 1) b)
    c.min-end.result =
    elim c.if-start-end.branch [
      | then-start-end+in_ok-push w ↦ rw w.out-is
          (meet_add a b _ _ _ _ _ _ _ _ m c.max-start.ensures c.min-end.ensures w.if-start-end.true
          w.in_ok-push.ensures.items)
      | else-start-end w ↦ rw w.out-is
          (meet_skip a b _ _ _ _ _ _ _ m c.max-start.ensures c.min-end.ensures w.if-start-end.false)
    ] in (
      omega arith,
      c.loop-i.invariant.1,
      rw (drop_more b j (0, 0) c.if-j-right.true) (meet_left a b _ _ _ _ _ met (omega arith)),
    )

pub loop-i-preserved : goal.loop-i-preserved
loop-i-preserved c =
    let a = c.args.left.now in
    let b = c.args.right.now in
    let i = c.loop-i.i in
    let j = c.loop-i.j in
    let m = rw (drop_more a i (0, 0) c.loop-i-test.true, drop_more b j (0, 0) c.if-j-right.true) at c.loop-i.invariant.2
    in
    let met : MetUpTo a b c.if-start-end.out.items (range_at a i ∷ drop (i + 1) a) (range_at b j ∷ drop (j + 1) b)
    c.min-end.result =
    elim c.if-start-end.branch [
      | then-start-end+in_ok-push w ↦ rw w.out-is
          (meet_add a b _ _ _ _ _ _ _ _ m c.max-start.ensures c.min-end.ensures w.if-start-end.true
          w.in_ok-push.ensures.items)
      | else-start-end w ↦ rw w.out-is
          (meet_skip a b _ _ _ _ _ _ _ m c.max-start.ensures c.min-end.ensures w.if-start-end.false)
    ] in (
      c.loop-i.invariant.0,
      omega arith,
      rw (drop_more a i (0, 0) c.loop-i-test.true) (meet_right a b _ _ _ _ _ met (omega arith)),
    )

pub returns : goal.returns
returns c =
    let a = c.args.left.now in
    let b = c.args.right.now in
    let done : (drop c.loop-i.i a ≡ []) ⊎ (drop c.loop-i.j b ≡ []) = elim c.loop-i-test.branch [
      | then-loop-i-test+else-j-right w ↦ inr (drop_all c.loop-i.j b w.if-j-right.false)
      | else-loop-i-test w ↦ inl (drop_all c.loop-i.i a w.loop-i-test.false)
    ] in
    (c.loop-i.invariant.2.canonical, meet_end a b _ _ _ c.loop-i.invariant.2 done)
