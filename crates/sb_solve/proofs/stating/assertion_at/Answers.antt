use Rattle.sb_solve.proofs.LiveRows.{no_mark, assertion_there}
use Rattle.sb_solve.proofs.stating.assertion_at.Goals as goal

pub unreachable-requires : goal.unreachable-requires
unreachable-requires c =
    let a = c.assertions-assertions in
    no_mark c.args.stack.now a.result.now c.args.place c.index-assertions-place.result a.ensures.value a.ensures.live
    c.requires.there c.index-assertions-place.is c.requires.decided c.in_default.is

pub returns : goal.returns
returns c =
    let a = c.assertions-assertions in
    assertion_there c.args.stack.now a.result.now c.args.place c.index-assertions-place.result a.ensures.value
    a.ensures.live c.requires.there c.index-assertions-place.is _ c.in-Some.term c.requires.decided a.ensures.numbers
    a.ensures.named c.sorts-sorts.ensures.state c.sorts-sorts.ensures.live a.ensures.levels c.in-Some.is
