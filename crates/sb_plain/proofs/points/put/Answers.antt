use Rattle.std.proofs.Common.{arith}
use Rattle.sb_plain.proofs.PointFacts.{points_inserted, covers_inserted, covers_new}
use Rattle.sb_plain.proofs.points.put.Goals as goal

pub returns-in_ok-insert-clause-points : goal.returns-in_ok-insert-clause-points
returns-in_ok-insert-clause-points c =
    points_inserted c.args.point c.args.set.now.keys c.insert.new.self.keys c.in_ok-insert.ensures.keys
    c.in_ok-insert.ensures.ordered (omega (arith, c.if-point-le-LAST_CHARACTER.true)) c.requires.points

pub returns-in_ok-insert-clause-kept : goal.returns-in_ok-insert-clause-kept
returns-in_ok-insert-clause-kept c =
    covers_inserted c.args.point c.args.set.now.keys c.insert.new.self.keys c.in_ok-insert.ensures.keys

pub returns-in_ok-insert-clause-put : goal.returns-in_ok-insert-clause-put
returns-in_ok-insert-clause-put c = λ l.
    covers_new c.args.point c.args.set.now.keys c.insert.new.self.keys c.in_ok-insert.ensures.keys
