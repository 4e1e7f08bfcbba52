use Rattle.sb_clauses.proofs.Settling.{watched_step, settles_step, settles_then, fine_by_short, at_none, some_answer}
use Rattle.std.proofs.Common.{sym, ◌∙◌}
use Rattle.sb_clauses.proofs.settle.settle_all.Goals as goal

pub returns-then-is_some-clause-watched : goal.returns-then-is_some-clause-watched
returns-then-is_some-clause-watched c =
    watched_step _ _ _ _ _ _ _ _ (rw c.deref.ensures.value at c.walk-short.ensures.advances) _ c.requires.watched
    (rw c.deref.ensures.value at c.walk-short.ensures.side)

pub settle_from-requires-clause-watched : goal.settle_from-requires-clause-watched
settle_from-requires-clause-watched c =
    watched_step _ _ _ _ _ _ _ _ (rw c.deref.ensures.value at c.walk-short.ensures.advances) _ c.requires.watched
    (rw c.deref.ensures.value at c.walk-short.ensures.side)

pub returns-clause-settles : goal.returns-clause-settles
returns-clause-settles c =
    settles_then _ _ _ _ _ _ _ _ _ _
    (settles_step _ _ _ _ _ _ _ _ (rw c.deref.ensures.value at c.walk-short.ensures.advances))
    c.settle_from.ensures.settles

pub returns-then-is_some-clause-settles : goal.returns-then-is_some-clause-settles
returns-then-is_some-clause-settles c =
    settles_step _ _ _ _ _ _ _ _ (rw c.deref.ensures.value at c.walk-short.ensures.advances)

pub settle_from-requires-clause-fine : goal.settle_from-requires-clause-fine
settle_from-requires-clause-fine c =
    fine_by_short _ c.args.first.now.watched.items _ _ c.args.first.now.lists _ c.args.trail.now c.walk-short.new.trail
    (rw c.deref.ensures.value at
    (at_none c.walk-short.result _ _ (sym c.is_some.ensures ∙ c.if-is_some.false) c.walk-short.ensures.answer))
    (rw c.deref.ensures.value at c.walk-short.ensures.side)

pub settle_from-requires-clause-room : goal.settle_from-requires-clause-room
settle_from-requires-clause-room c = rw c.walk-short.ensures.advances.grows.reserved c.requires.room

pub returns-then-is_some-clause-answer : goal.returns-then-is_some-clause-answer
returns-then-is_some-clause-answer c =
    some_answer _ _ _ _ (sym c.is_some.ensures ∙ c.if-is_some.true) c.walk-short.ensures.answer
