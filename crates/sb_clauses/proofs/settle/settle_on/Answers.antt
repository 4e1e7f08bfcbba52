use Rattle.std.proofs.Common.{length, sym, ◌∙◌, ap, arith}
use Rattle.sb_clauses.proofs.Growing.{GrowsBy-then}
use Rattle.sb_clauses.proofs.Settling.{none_given, at_none, all_settled, some_answer, some_found}
use Rattle.sb_clauses.proofs.Resting.{ready_forgotten, stored_of, begin_fine, head_fine, stored_stopped, stored_settled}
use Rattle.std.proofs.lemmas.Grind.{common_steps}
use Rattle.sb_clauses.proofs.settle.settle_on.Goals as goal

pub list_new-conflict-requires-clause-ready : goal.list_new-conflict-requires-clause-ready
list_new-conflict-requires-clause-ready c =
    rw c.records-records.ensures
    (ready_forgotten _ _ _ _ _ _ _ _ _ _ c.forget_from.ensures.front
    (rw c.current_level.ensures at c.forget_from.ensures.below) c.requires.stored.ready)

pub returns-then-is_some-clause-stored : goal.returns-then-is_some-clause-stored
returns-then-is_some-clause-stored c =
    rw (← c.records-records.ensures)
    (stored_of _ _ _ _ _ _ _ _ _ c.list_new-conflict.ensures.ready
    (rw (c.deref.ensures.value, c.literals.ensures.value) at c.end_of_marks-queue.ensures)
    c.list_new-conflict.ensures.room c.list_new-conflict.ensures.listed)

pub settle-conflict-requires-clause-fine : goal.settle-conflict-requires-clause-fine
settle-conflict-requires-clause-fine c =
    let none = sym c.is_some.ensures ∙ c.if-is_some.false in
    head_fine _ _ _ _ _
    (begin_fine _ _ _ _ _ _ _ _ _ _ _ c.list_new-conflict.ensures.head
    (none_given c.list_new-conflict.result _ none c.list_new-conflict.ensures.all)
    (rw (← c.records-records.ensures) at c.requires.stored.begins)
    (none_given c.list_new-conflict.result _ none c.list_new-conflict.ensures.fine))

pub returns-then-is_some-2-clause-stored : goal.returns-then-is_some-2-clause-stored
returns-then-is_some-2-clause-stored c =
    let none = sym c.is_some.ensures ∙ c.if-is_some.false in
    let all = none_given c.list_new-conflict.result _ none c.list_new-conflict.ensures.all in
    rw (← c.records-records.ensures)
    (stored_stopped _ _ _ _ _ _ _ _ _ _ _ _ _ _ all c.settle-conflict.ensures.watched
    c.list_new-conflict.ensures.ready c.settle-conflict.ensures.settles
    (begin_fine _ _ _ _ _ _ _ _ _ _ _ c.list_new-conflict.ensures.head all
    (rw (← c.records-records.ensures) at c.requires.stored.begins)
    (none_given c.list_new-conflict.result _ none c.list_new-conflict.ensures.fine)))

pub returns-then-is_some-2-clause-grows : goal.returns-then-is_some-2-clause-grows
returns-then-is_some-2-clause-grows c =
    rw (← c.records-records.ensures)
    (GrowsBy-then _ _ _ _ c.list_new-conflict.ensures.grows c.settle-conflict.ensures.settles.grows)

pub returns-clause-stored : goal.returns-clause-stored
returns-clause-stored c =
    let none = sym c.is_some.ensures ∙ c.if-is_some.false in
    rw (← c.records-records.ensures)
    (stored_settled _ _ _ _ _ _ _ _ _ _ _ _ _ _ _
    (none_given c.list_new-conflict.result _ none c.list_new-conflict.ensures.all)
    (ap length c.literals-2.ensures.value) c.literals-2.ensures.trail.levelled
    c.settle-conflict.ensures.watched c.list_new-conflict.ensures.ready c.settle-conflict.ensures.settles
    (at_none c.settle-conflict.result _ _ (sym c.is_some-2.ensures ∙ c.if-is_some-2.false)
    c.settle-conflict.ensures.answer) (rw c.current_level-2.ensures at c.mark.ensures))

pub returns-clause-grows : goal.returns-clause-grows
returns-clause-grows c =
    rw (← c.records-records.ensures)
    (GrowsBy-then _ _ _ _ c.list_new-conflict.ensures.grows c.settle-conflict.ensures.settles.grows)

pub returns-clause-answer : goal.returns-clause-answer
returns-clause-answer c =
    rw (← c.records-records.ensures)
    (all_settled _ _ _ _ _ _ c.literals-2.ensures.consistent c.settle-conflict.ensures.watched
    (at_none c.settle-conflict.result _ _ (sym c.is_some-2.ensures ∙ c.if-is_some-2.false)
    c.settle-conflict.ensures.answer))

pub settle-conflict-requires-clause-watched : goal.settle-conflict-requires-clause-watched
settle-conflict-requires-clause-watched c = grind (arith, common_steps)

pub returns-then-is_some-clause-answer : goal.returns-then-is_some-clause-answer
returns-then-is_some-clause-answer c =
    rw (← c.records-records.ensures)
    (some_found _ _ _ (sym c.is_some.ensures ∙ c.if-is_some.true) c.list_new-conflict.ensures.answer)

pub returns-then-is_some-2-clause-answer : goal.returns-then-is_some-2-clause-answer
returns-then-is_some-2-clause-answer c =
    rw (← c.records-records.ensures)
    (some_answer _ _ _ _ (sym c.is_some-2.ensures ∙ c.if-is_some-2.true) c.settle-conflict.ensures.answer)

pub returns-then-is_some-clause-grows : goal.returns-then-is_some-clause-grows
returns-then-is_some-clause-grows c = rw (← c.records-records.ensures) c.list_new-conflict.ensures.grows

pub settle-conflict-requires-clause-room : goal.settle-conflict-requires-clause-room
settle-conflict-requires-clause-room c =
    rw (c.list_new-conflict.ensures.grows.reserved, c.records-records.ensures) c.requires.room

pub settle-conflict-requires-clause-spared : goal.settle-conflict-requires-clause-spared
settle-conflict-requires-clause-spared c = rw c.records-records.ensures c.requires.spared

pub list_new-conflict-requires-clause-listed : goal.list_new-conflict-requires-clause-listed
list_new-conflict-requires-clause-listed c = rw c.records-records.ensures c.requires.stored.within

pub returns-clause-spared : goal.returns-clause-spared
returns-clause-spared c = rw (← c.records-records.ensures) c.settle-conflict.ensures.spared

pub returns-then-is_some-2-clause-spared : goal.returns-then-is_some-2-clause-spared
returns-then-is_some-2-clause-spared c = rw (← c.records-records.ensures) c.settle-conflict.ensures.spared

pub returns-then-is_some-clause-spared : goal.returns-then-is_some-clause-spared
returns-then-is_some-clause-spared c = c.requires.spared

pub forget_from-requires : goal.forget_from-requires
forget_from-requires c = c.requires.stored.ready.ascending

pub end_of_marks-queue-requires : goal.end_of_marks-queue-requires
end_of_marks-queue-requires c = rw c.literals.ensures.value c.literals.ensures.trail.levelled
