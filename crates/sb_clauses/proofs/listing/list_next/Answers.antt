use Rattle.std.proofs.Common.{refl, arith}
use Rattle.sb_clauses.proofs.NextClause.{next_none, head_none, first_home, second_home, first_small, second_small, next_some, next_room, head_stays, head_forced, forced_place, forced_grows, forced_ready, false_here}
use Rattle.std.proofs.lemmas.Grind.{common_steps}
use Rattle.std.proofs.lemmas.List.{length-take}
use Rattle.sb_clauses.specs.Records.{kept_of}
use Rattle.sb_clauses.proofs.Growing.{GrowsBy-none}
use Rattle.sb_clauses.proofs.listing.list_next.Goals as goal

pub returns-in_default-clause-ready : goal.returns-in_default-clause-ready
returns-in_default-clause-ready c =
    next_none c.args.records.now c.args.number c.index-records-number.result _ _ _ _ c.requires.inside
    c.index-records-number.is c.requires.room _ _ _ c.in_default.is c.requires.ready

pub returns-in_default-clause-fine : goal.returns-in_default-clause-fine
returns-in_default-clause-fine c =
    head_none c.args.records.now c.args.number c.index-records-number.result _ _ _ _ c.requires.inside
    c.index-records-number.is c.requires.room _ c.in_default.is

pub watch-requires-clause-home : goal.watch-requires-clause-home
watch-requires-clause-home c =
    first_home c.args.records.now c.args.number c.index-records-number.result _ _ _ _ c.requires.inside
    c.index-records-number.is c.requires.room c.in-Some.record c.as_slice-clause.result.now c.in-Some.is
    c.as_slice-clause.ensures c.watched_literals.result.0 c.watched_literals.result.1
    c.watched_literals.ensures.watchable

pub watch-requires-2-clause-home : goal.watch-requires-2-clause-home
watch-requires-2-clause-home c =
    second_home c.args.records.now c.args.number c.index-records-number.result _ _ _ _ c.requires.inside
    c.index-records-number.is c.requires.room c.in-Some.record c.as_slice-clause.result.now c.in-Some.is
    c.as_slice-clause.ensures c.watched_literals.result.0 c.watched_literals.result.1
    c.watched_literals.ensures.watchable

pub assign-requires-clause-reserved : goal.assign-requires-clause-reserved
assign-requires-clause-reserved c =
    forced_place c.args.records.now c.args.number c.index-records-number.result _ _ _ _ c.requires.inside
    c.index-records-number.is c.requires.room c.in-Some.record c.as_slice-clause.result.now c.in-Some.is
    c.as_slice-clause.ensures c.watched_literals.result.0 c.watched_literals.result.1
    c.watched_literals.ensures.watchable c.args.trail.now c.in-Forces.literal c.requires.reserved
    c.in-Forces.ensures

pub returns-in-Stays-clause-ready : goal.returns-in-Stays-clause-ready
returns-in-Stays-clause-ready c =
    rw (c.watch.ensures.watched, c.watch.ensures.lists, c.watch-2.ensures.watched, c.watch-2.ensures.lists)
    (next_some c.args.records.now c.args.number c.index-records-number.result _ _ _ _ c.requires.inside
    c.index-records-number.is c.requires.room c.in-Some.record c.as_slice-clause.result.now c.in-Some.is
    c.as_slice-clause.ensures c.watched_literals.result.0 c.watched_literals.result.1
    c.watched_literals.ensures.watchable _ _ _ _ c.forget_late.ensures.late c.forget_late.ensures.front
    c.requires.ready)

pub returns-in-False-clause-ready : goal.returns-in-False-clause-ready
returns-in-False-clause-ready c =
    rw (c.watch.ensures.watched, c.watch.ensures.lists, c.watch-2.ensures.watched, c.watch-2.ensures.lists)
    (next_some c.args.records.now c.args.number c.index-records-number.result _ _ _ _ c.requires.inside
    c.index-records-number.is c.requires.room c.in-Some.record c.as_slice-clause.result.now c.in-Some.is
    c.as_slice-clause.ensures c.watched_literals.result.0 c.watched_literals.result.1
    c.watched_literals.ensures.watchable _ _ _ _ c.forget_late.ensures.late c.forget_late.ensures.front
    c.requires.ready)

pub returns-in-Stays-clause-room : goal.returns-in-Stays-clause-room
returns-in-Stays-clause-room c =
    rw (c.watch.ensures.watched, c.watch.ensures.lists, c.watch-2.ensures.watched, c.watch-2.ensures.lists)
    (next_room c.args.records.now c.args.number c.index-records-number.result _ _ _ _ c.requires.inside
    c.index-records-number.is c.requires.room c.in-Some.record c.as_slice-clause.result.now c.in-Some.is
    c.as_slice-clause.ensures c.watched_literals.result.0 c.watched_literals.result.1
    c.watched_literals.ensures.watchable)

pub returns-in-Forces-clause-room : goal.returns-in-Forces-clause-room
returns-in-Forces-clause-room c =
    rw (c.watch.ensures.watched, c.watch.ensures.lists, c.watch-2.ensures.watched, c.watch-2.ensures.lists)
    (next_room c.args.records.now c.args.number c.index-records-number.result _ _ _ _ c.requires.inside
    c.index-records-number.is c.requires.room c.in-Some.record c.as_slice-clause.result.now c.in-Some.is
    c.as_slice-clause.ensures c.watched_literals.result.0 c.watched_literals.result.1
    c.watched_literals.ensures.watchable)

pub returns-in-False-clause-room : goal.returns-in-False-clause-room
returns-in-False-clause-room c =
    rw (c.watch.ensures.watched, c.watch.ensures.lists, c.watch-2.ensures.watched, c.watch-2.ensures.lists)
    (next_room c.args.records.now c.args.number c.index-records-number.result _ _ _ _ c.requires.inside
    c.index-records-number.is c.requires.room c.in-Some.record c.as_slice-clause.result.now c.in-Some.is
    c.as_slice-clause.ensures c.watched_literals.result.0 c.watched_literals.result.1
    c.watched_literals.ensures.watchable)

pub returns-in-Stays-clause-fine : goal.returns-in-Stays-clause-fine
returns-in-Stays-clause-fine c =
    rw (c.watch.ensures.watched, c.watch-2.ensures.watched)
    (head_stays c.args.records.now c.args.number c.index-records-number.result _ _ _ _ c.requires.inside
    c.index-records-number.is c.requires.room c.in-Some.record c.as_slice-clause.result.now c.in-Some.is
    c.as_slice-clause.ensures c.watched_literals.result.0 c.watched_literals.result.1
    c.watched_literals.ensures.watchable _ c.in-Stays.ensures)

pub returns-in-Forces-clause-ready : goal.returns-in-Forces-clause-ready
returns-in-Forces-clause-ready c =
    rw (
      c.watch.ensures.watched,
      c.watch.ensures.lists,
      c.watch-2.ensures.watched,
      c.watch-2.ensures.lists,
      c.assign.ensures,
    )
    (forced_ready c.args.records.now c.args.number c.index-records-number.result _ _ _ _ c.requires.inside
    c.index-records-number.is c.requires.room c.in-Some.record c.as_slice-clause.result.now c.in-Some.is
    c.as_slice-clause.ensures c.watched_literals.result.0 c.watched_literals.result.1
    c.watched_literals.ensures.watchable c.args.trail.now.literals _ _ _ refl c.forget_late.ensures.late
    c.forget_late.ensures.front c.requires.ready)

pub returns-in-Forces-clause-grows : goal.returns-in-Forces-clause-grows
returns-in-Forces-clause-grows c =
    rw c.assign.ensures
    (forced_grows c.args.records.now c.args.number c.index-records-number.result _ _ _ _ c.requires.inside
    c.index-records-number.is c.requires.room c.in-Some.record c.as_slice-clause.result.now c.in-Some.is
    c.as_slice-clause.ensures c.watched_literals.result.0 c.watched_literals.result.1
    c.watched_literals.ensures.watchable c.args.trail.now _ c.in-Forces.literal refl
    c.in-Forces.ensures)

pub returns-in-Forces-clause-fine : goal.returns-in-Forces-clause-fine
returns-in-Forces-clause-fine c =
    rw (c.watch.ensures.watched, c.watch-2.ensures.watched, c.assign.ensures)
    (head_forced c.args.records.now c.args.number c.index-records-number.result _ _ _ _ c.requires.inside
    c.index-records-number.is c.requires.room c.in-Some.record c.as_slice-clause.result.now c.in-Some.is
    c.as_slice-clause.ensures c.watched_literals.result.0 c.watched_literals.result.1
    c.watched_literals.ensures.watchable c.args.trail.now.literals _ c.in-Forces.ensures)

pub returns-in-False-clause-answer : goal.returns-in-False-clause-answer
returns-in-False-clause-answer c =
    false_here c.args.records.now c.args.number c.index-records-number.result _ _ _ _ c.requires.inside
    c.index-records-number.is c.requires.room c.in-Some.record c.as_slice-clause.result.now c.in-Some.is
    c.as_slice-clause.ensures c.watched_literals.result.0 c.watched_literals.result.1
    c.watched_literals.ensures.watchable _ _ refl c.in-False.ensures

pub watch-requires-clause-small : goal.watch-requires-clause-small
watch-requires-clause-small c =
    first_small
    c.args.records.now c.args.number c.index-records-number.result _ _ _ _ c.requires.inside
    c.index-records-number.is c.requires.room c.in-Some.record c.as_slice-clause.result.now c.in-Some.is
    c.as_slice-clause.ensures c.watched_literals.result.0 c.watched_literals.result.1
    c.watched_literals.ensures.watchable

pub watch-requires-2-clause-small : goal.watch-requires-2-clause-small
watch-requires-2-clause-small c =
    second_small
    c.args.records.now c.args.number c.index-records-number.result _ _ _ _ c.requires.inside
    c.index-records-number.is c.requires.room c.in-Some.record c.as_slice-clause.result.now c.in-Some.is
    c.as_slice-clause.ensures c.watched_literals.result.0 c.watched_literals.result.1
    c.watched_literals.ensures.watchable

pub bounds-records-number : goal.bounds-records-number
bounds-records-number c = grind (arith, common_steps)

pub offset_bounds-records-number : goal.offset_bounds-records-number
offset_bounds-records-number c = grind (arith, common_steps)

pub forget_late-requires : goal.forget_late-requires
forget_late-requires c = record { ascending = c.requires.ready.ascending }

pub returns-in_default-clause-grows : goal.returns-in_default-clause-grows
returns-in_default-clause-grows c = GrowsBy-none _ _

pub returns-in-Stays-clause-grows : goal.returns-in-Stays-clause-grows
returns-in-Stays-clause-grows c = GrowsBy-none _ _

pub returns-in-False-clause-grows : goal.returns-in-False-clause-grows
returns-in-False-clause-grows c = GrowsBy-none _ _

pub watch-requires-clause-nowhere : goal.watch-requires-clause-nowhere
watch-requires-clause-nowhere c =
    c.requires.ready.watched.at_first.fresh c.args.number
    (omega (arith, length-take c.args.number (kept_of c.args.records.now)))

pub watch-requires-2-clause-nowhere : goal.watch-requires-2-clause-nowhere
watch-requires-2-clause-nowhere c =
    c.requires.ready.watched.at_second.fresh c.args.number
    (omega (arith, length-take c.args.number (kept_of c.args.records.now)))

pub assign-requires-clause-unassigned : goal.assign-requires-clause-unassigned
assign-requires-clause-unassigned c = c.in-Forces.ensures.unassigned

pub arrive-requires-clause-best : goal.arrive-requires-clause-best
arrive-requires-clause-best c = c.watched_literals.ensures.best
