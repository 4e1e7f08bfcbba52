use Rattle.sb_clauses.proofs.Marked.{ascending_front, left_below, left_front}
use Rattle.sb_clauses.proofs.marks.backtrack_marks.Goals as goal

pub returns-clause-ascending : goal.returns-clause-ascending
returns-clause-ascending c =
    ascending_front c.args.marks.now.items _
    (left_front c.args.marks.now.items _ c.count_up_to-count.result
    (rw c.deref.ensures.value at c.count_up_to-count.ensures.within) c.truncate.ensures.items) c.requires

pub returns-clause-front : goal.returns-clause-front
returns-clause-front c =
    left_front c.args.marks.now.items _ c.count_up_to-count.result
    (rw c.deref.ensures.value at c.count_up_to-count.ensures.within) c.truncate.ensures.items

pub returns-clause-below : goal.returns-clause-below
returns-clause-below c =
    rw c.truncate.ensures.items
    (left_below c.args.marks.now.items c.count_up_to-count.result c.args.level c.requires
    (rw c.deref.ensures.value at c.count_up_to-count.ensures.within)
    (rw c.deref.ensures.value at c.count_up_to-count.ensures.ends))
