use Rattle.std.proofs.Common.{◌≤◌, ◌∙◌, arith}
use Rattle.sb_class.proofs.Pushing.{next_free, last_within, pushed_onto_last, pushed_after, free_after_last, free_at_none}
use Rattle.sb_class.proofs.range_list.push.Goals as goal
use Rattle.sb_class.proofs.range_list.push.Goals.{then-len-gt0+else-range-last, else-len-gt0}

pub overflow_add-last : goal.overflow_add-last
overflow_add-last c =
    let xs = c.args.out.now in
    omega (
      arith,
      last_within xs.items _ _ (c.len-len.ensures ∙ xs.ok.0) c.if-len-gt0.true c.index-last.ensures
          c.requires.canonical,
    )

pub returns-then-range-last : goal.returns-then-range-last
returns-then-range-last c =
    let xs = c.args.out.now in
    pushed_onto_last xs.items _ _ c.args.range _ (c.len-len.ensures ∙ xs.ok.0) c.if-len-gt0.true c.index-last.ensures
    c.requires.canonical c.requires.fits c.if-range-last.true c.max.ensures

pub returns : goal.returns
returns c =
    let xs = c.args.out.now in
    let free : next_free 0 xs.items ≤ c.args.range.0 = elim c.if-len-gt0.branch [
      | then-len-gt0+else-range-last w ↦ omega
          (arith, free_after_last xs.items _ _ (c.len-len.ensures ∙ xs.ok.0) w.if-len-gt0.true w.index-last.ensures)
      | else-len-gt0 w ↦ omega (arith, free_at_none xs.items (omega arith))
    ] in
    pushed_after xs.items _ c.args.range c.in_ok-push.ensures.items c.requires.canonical free c.requires.fits
