use Rattle.sb_regex.proofs.Building.{mkset_nil, mkset_more, normal_set}
use Rattle.sb_regex.proofs.arena.Arena.set.Goals as goal

pub returns-then-is_empty-clause-ok : goal.returns-then-is_empty-clause-ok
returns-then-is_empty-clause-ok c =
    let empty = rw (c.ranges-ranges.ensures.value) at c.if-is_empty.ensures in
    rw (← mkset_nil c.args.class.now empty) (c.none.ensures.ok)

pub intern-requires-clause-normal : goal.intern-requires-clause-normal
intern-requires-clause-normal c =
    let more = rw (c.ranges-ranges.ensures.value) at c.if-is_empty.ensures in
    rw (c.in_ok-ranges.ensures.items, c.ranges-ranges.ensures.value)
    (normal_set c.args.class.now c.constructors_give_normal.ensures c.ranges-ranges.ensures.canonical more)

pub returns-clause-ok : goal.returns-clause-ok
returns-clause-ok c =
    let more = rw (c.ranges-ranges.ensures.value) at c.if-is_empty.ensures in
    rw (← mkset_more c.args.class.now more, ← c.ranges-ranges.ensures.value, ← c.in_ok-ranges.ensures.items)
    (c.intern.ensures.ok)
