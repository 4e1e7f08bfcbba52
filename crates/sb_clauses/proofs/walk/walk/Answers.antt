use Rattle.std.proofs.Common.{arith, refl, inl}
use Rattle.sb_clauses.specs.Records.{kept_of}
use Rattle.sb_clauses.specs.Walking.{Walk}
use Rattle.sb_clauses.proofs.Walked.{walk_begins, walk_holds, walk_past, walk_ends, match_weaker}
use Rattle.sb_clauses.proofs.Growing.{GrowsBy-none}
use Rattle.sb_clauses.proofs.walk.walk.Goals as goal

pub take_turns-conflict-requires-clause-walking : goal.take_turns-conflict-requires-clause-walking
take_turns-conflict-requires-clause-walking c =
    walk_begins c.args.list _ c.requires.side c.requires.room c.requires.are_false c.requires.begun
    (omega (arith, c.if-list-len.false, c.len.ensures))

pub returns-clause-side : goal.returns-clause-side
returns-clause-side c =
    rw c.put.ensures (walk_ends c.args.list _ c.pour.new.lists c.take_turns-conflict.ensures.walking c.pour.ensures)

pub returns-then-list-len-clause-answer : goal.returns-then-list-len-clause-answer
returns-then-list-len-clause-answer c =
    let w : Walk = record {
      kept = kept_of c.args.records.now;
      own = c.args.own.now.watched.items;
      other = c.args.other.now;
      all = c.args.own.now.lists;
      trail = c.args.trail.now;
    } in
    walk_past c.args.list w c.requires.side (omega (arith, c.if-list-len.true, c.len.ensures))

pub returns-clause-answer : goal.returns-clause-answer
returns-clause-answer c =
    match_weaker c.take_turns-conflict.result _ _ _
    (λ empty. walk_holds c.args.list _ c.take_turns-conflict.ensures.walking empty) c.take_turns-conflict.ensures.answer

pub returns-then-list-len-clause-advances : goal.returns-then-list-len-clause-advances
returns-then-list-len-clause-advances c =
    record { grows = GrowsBy-none _ _; len = refl; moved = λ id clause has. inl refl }
