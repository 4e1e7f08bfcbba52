use Rattle.std.proofs.Common.{arith, refl, inl}
use Rattle.sb_clauses.specs.Records.{kept_of}
use Rattle.sb_clauses.specs.Watching.{list_of}
use Rattle.sb_clauses.specs.Walking.{Walk}
use Rattle.sb_clauses.proofs.Walked.{walk_past}
use Rattle.sb_clauses.proofs.Growing.{GrowsBy-none}
use Rattle.sb_clauses.proofs.Walking.{list_of-positive}
use Rattle.sb_clauses.proofs.settle.walk_watching.Goals as goal

pub returns-in-Some-clause-answer : goal.returns-in-Some-clause-answer
returns-in-Some-clause-answer c = rw c.in-Some.ensures.0 at c.walk.ensures.answer

pub returns-in-None-clause-answer : goal.returns-in-None-clause-answer
returns-in-None-clause-answer c =
    let w : Walk = record {
      kept = kept_of c.args.records.now;
      own = c.args.own.now.watched.items;
      other = c.args.other.now;
      all = c.args.own.now.lists;
      trail = c.args.trail.now;
    } in
    walk_past (list_of c.args.literal) w c.requires.side (omega (arith, c.in-None.ensures, c.len.ensures))

pub returns-in-None-clause-advances : goal.returns-in-None-clause-advances
returns-in-None-clause-advances c =
    record { grows = GrowsBy-none _ _; len = refl; moved = λ id clause has. inl refl }

pub walk-requires-clause-begun : goal.walk-requires-clause-begun
walk-requires-clause-begun c =
    let positive = list_of-positive c.args.literal in
    rw c.in-Some.ensures.0 (omega (arith, positive))
