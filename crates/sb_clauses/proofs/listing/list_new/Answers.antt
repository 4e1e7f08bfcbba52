use Rattle.std.proofs.Common.{sym, ◌∙◌, refl, arith}
use Rattle.std.proofs.lemmas.List.{length-map}
use Rattle.std.specs.Option.{option_map}
use Rattle.sb_clauses.specs.Records.{clause_of}
use Rattle.sb_clauses.proofs.Growing.{GrowsBy-then, GrowsBy-none}
use Rattle.sb_clauses.proofs.Settling.{none_given, some_given}
use Rattle.std.proofs.lemmas.Grind.{common_steps}
use Rattle.sb_clauses.proofs.listing.list_new.Goals as goal

pub returns-then-is_some-clause-grows : goal.returns-then-is_some-clause-grows
returns-then-is_some-clause-grows c =
    GrowsBy-then _ _ _ _ c.loop-number.invariant.grows c.list_next-conflict.ensures.grows

pub loop-number-preserved : goal.loop-number-preserved
loop-number-preserved c = record {
  inside = omega (arith, c.loop-number-test.true, length-map c.args.records.now (option_map clause_of));
  listed = refl;
  head = c.loop-number.invariant.head;
  ready = c.list_next-conflict.ensures.ready;
  room = c.list_next-conflict.ensures.room;
  grows = GrowsBy-then _ _ _ _ c.loop-number.invariant.grows c.list_next-conflict.ensures.grows;
  fine = λ head h.
      none_given c.list_next-conflict.result _ (sym c.is_some.ensures ∙ c.if-is_some.false)
      c.list_next-conflict.ensures.fine head (c.loop-number.invariant.fine head h);
}

pub returns-clause-fine : goal.returns-clause-fine
returns-clause-fine c = rw c.loop-number.invariant.listed c.loop-number.invariant.fine

pub list_next-conflict-requires-clause-inside : goal.list_next-conflict-requires-clause-inside
list_next-conflict-requires-clause-inside c = grind (arith, common_steps)

pub returns-clause-all : goal.returns-clause-all
returns-clause-all c = grind (arith, common_steps)

pub returns-then-is_some-clause-listed : goal.returns-then-is_some-clause-listed
returns-then-is_some-clause-listed c = grind (arith, common_steps)

pub loop-number-init : goal.loop-number-init
loop-number-init c = record {
  inside = c.requires.listed;
  listed = refl;
  head = refl;
  ready = c.requires.ready;
  room = c.requires.room;
  grows = GrowsBy-none _ _;
  fine = λ head h. h;
}

pub list_next-conflict-requires-clause-reserved : goal.list_next-conflict-requires-clause-reserved
list_next-conflict-requires-clause-reserved c = rw c.loop-number.invariant.grows.reserved c.requires.reserved

pub returns-then-is_some-clause-all : goal.returns-then-is_some-clause-all
returns-then-is_some-clause-all c = some_given _ _ (sym c.is_some.ensures ∙ c.if-is_some.true)

pub returns-then-is_some-clause-head : goal.returns-then-is_some-clause-head
returns-then-is_some-clause-head c = c.loop-number.invariant.head

pub returns-then-is_some-clause-ready : goal.returns-then-is_some-clause-ready
returns-then-is_some-clause-ready c = c.list_next-conflict.ensures.ready

pub returns-then-is_some-clause-room : goal.returns-then-is_some-clause-room
returns-then-is_some-clause-room c = c.list_next-conflict.ensures.room

pub returns-then-is_some-clause-fine : goal.returns-then-is_some-clause-fine
returns-then-is_some-clause-fine c = some_given _ _ (sym c.is_some.ensures ∙ c.if-is_some.true)

pub returns-then-is_some-clause-answer : goal.returns-then-is_some-clause-answer
returns-then-is_some-clause-answer c = c.list_next-conflict.ensures.answer

pub returns-clause-ready : goal.returns-clause-ready
returns-clause-ready c = rw c.loop-number.invariant.listed c.loop-number.invariant.ready
