use Rattle.sb_clauses.proofs.Settling.{watched_step, settles_step, both_settle, both_watched, both_fine, if_none, at_none, some_given, some_answer}
use Rattle.std.proofs.Common.{sym, ◌∙◌, arith}
use Rattle.std.proofs.lemmas.Grind.{common_steps}
use Rattle.sb_clauses.proofs.settle.walk_both.Goals as goal

pub returns-then-is_some-clause-watched : goal.returns-then-is_some-clause-watched
returns-then-is_some-clause-watched c =
    watched_step _ _ _ _ _ _ _ _ (rw c.deref.ensures.value at c.walk_watching-conflict.ensures.advances) _
    c.requires.watched (rw c.deref.ensures.value at c.walk_watching-conflict.ensures.side)

pub walk_watching-requires-clause-side : goal.walk_watching-requires-clause-side
walk_watching-requires-clause-side c =
    rw c.deref-2.ensures.value
    (watched_step _ _ _ _ _ _ _ _ (rw c.deref.ensures.value at c.walk_watching-conflict.ensures.advances) _
    c.requires.watched (rw c.deref.ensures.value at c.walk_watching-conflict.ensures.side)).at_second

pub returns-clause-watched : goal.returns-clause-watched
returns-clause-watched c =
    both_watched _ _ _ _ _ _ _ _ _ _ _ _ (rw c.deref.ensures.value at c.walk_watching-conflict.ensures.advances)
    (rw c.deref-2.ensures.value at c.walk_watching.ensures.advances) c.requires.watched
    (rw c.deref.ensures.value at c.walk_watching-conflict.ensures.side)
    (rw c.deref-2.ensures.value at c.walk_watching.ensures.side)

pub returns-clause-settles : goal.returns-clause-settles
returns-clause-settles c =
    both_settle _ _ _ _ _ _ _ _ _ _ _ _ (rw c.deref.ensures.value at c.walk_watching-conflict.ensures.advances)
    (rw c.deref-2.ensures.value at c.walk_watching.ensures.advances)

pub returns-clause-fine : goal.returns-clause-fine
returns-clause-fine c =
    if_none c.walk_watching.result _ _ _ c.walk_watching.ensures.answer (λ also.
    both_fine _ _ _ _ _ _ _ _ _ _ _ _ (rw c.deref.ensures.value at c.walk_watching-conflict.ensures.advances)
    (rw c.deref-2.ensures.value at c.walk_watching.ensures.advances) c.args.literal c.requires.is_false
    (rw c.deref.ensures.value at
    (at_none c.walk_watching-conflict.result _ _ (sym c.is_some.ensures ∙ c.if-is_some.false)
    c.walk_watching-conflict.ensures.answer)) (rw c.deref-2.ensures.value at also))

pub returns-then-is_some-clause-settles : goal.returns-then-is_some-clause-settles
returns-then-is_some-clause-settles c =
    settles_step _ _ _ _ _ _ _ _ (rw c.deref.ensures.value at c.walk_watching-conflict.ensures.advances)

pub walk_watching-requires-clause-is_false : goal.walk_watching-requires-clause-is_false
walk_watching-requires-clause-is_false c = grind (arith, common_steps)

pub returns-then-is_some-clause-fine : goal.returns-then-is_some-clause-fine
returns-then-is_some-clause-fine c = some_given _ _ (sym c.is_some.ensures ∙ c.if-is_some.true)

pub returns-then-is_some-clause-conflict : goal.returns-then-is_some-clause-conflict
returns-then-is_some-clause-conflict c =
    some_answer _ _ _ _ (sym c.is_some.ensures ∙ c.if-is_some.true) c.walk_watching-conflict.ensures.answer

pub walk_watching-requires-clause-room : goal.walk_watching-requires-clause-room
walk_watching-requires-clause-room c =
    rw c.walk_watching-conflict.ensures.advances.grows.reserved c.requires.room
