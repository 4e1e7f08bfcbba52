use Rattle.std.proofs.Common.{sym, ◌∙◌, arith}
use Rattle.sb_members.proofs.Stronger.{row_more, row_ends, row_whole}
use Rattle.sb_members.proofs.needed.is_row.Goals as goal

pub loop-body-preserved : goal.loop-body-preserved
loop-body-preserved c = (
  omega (arith, c.in-Some.ensures.part, c.loop-body.invariant.0),
  λ w. c.loop-body.invariant.1
      (row_more c.cut_is_some_cut.ensures c.iteration_is_some_power.ensures c.args.arena.now c.args.all c.args.body
      c.loop-body.at c.in-Some.next c.requires.is c.in-Some.ensures w),
)

pub returns-in_default : goal.returns-in_default
returns-in_default c = λ yes. c.loop-body.invariant.1
    (row_ends c.cut_is_some_cut.ensures c.iteration_is_some_power.ensures c.args.arena.now c.args.all c.args.body
    c.loop-body.at c.requires.is (c.lies_within.ensures yes))

pub returns : goal.returns
returns c = λ yes. c.loop-body.invariant.1
    (row_whole c.args.arena.now c.args.all c.loop-body.at (sym c.ne.ensures ∙ c.loop-body-test.false))
