use Rattle.std.proofs.Common.{refl, arith, ap}
use Rattle.sb_clauses.proofs.NextClause.{roomier_none, stored_roomier, stored_either}
use Rattle.sb_clauses.proofs.Sparing.{spared_either}
use Rattle.std.proofs.lemmas.Grind.{common_steps}
use Rattle.std.proofs.lemmas.Result.{MatchResult-from_err, on_ok_weaker, on_err_weaker}
use Rattle.sb_clauses.specs.Propagation.{State}
use Rattle.sb_clauses.proofs.engine.Engine.add.Goals as goal

pub invariant_of-self : goal.invariant_of-self
invariant_of-self c = (
  stored_roomier _ _ _ _ _ _ _ _ _ _ _ _ _ c.make_room.ensures.roomier (roomier_none _ _) c.self.invariant.0,
  c.self.invariant.1,
)

pub invariant_of-self-in_err-make_room-2 : goal.invariant_of-self-in_err-make_room-2
invariant_of-self-in_err-make_room-2 c = (
  stored_roomier _ _ _ _ _ _ _ _ _ _ _ _ _ c.make_room.ensures.roomier c.make_room-2.ensures.roomier
      c.self.invariant.0,
  c.self.invariant.1,
)

pub invariant_of-self-in_err-grow_spares : goal.invariant_of-self-in_err-grow_spares
invariant_of-self-in_err-grow_spares c = (
  stored_roomier _ _ _ _ _ _ _ _ _ _ _ _ _ c.make_room.ensures.roomier c.make_room-2.ensures.roomier
      c.self.invariant.0,
  c.grow_spares.ensures _ c.self.invariant.1,
)

pub invariant_of-self-2 : goal.invariant_of-self-2
invariant_of-self-2 c = (
  stored_either c.add.result _ _ (record { literals = c.args.clause.now; level = c.args.level }) c.args.clause.now _ _
      _ _ _ _ _ _ c.len-numbers.result c.in-Some.lists c.add.ensures.ok c.add.ensures.err refl c.len-numbers.ensures
      (rw c.literals.ensures at c.in-Some.ensures) c.in_ok-make_room.ensures.room c.in_ok-make_room-2.ensures.room
      (stored_roomier _ _ _ _ _ _ _ _ _ _ _ _ _ c.make_room.ensures.roomier c.make_room-2.ensures.roomier
      c.self.invariant.0),
  spared_either c.add.result _ _ (record { literals = c.args.clause.now; level = c.args.level }) _ c.add.ensures.ok
      c.add.ensures.err (c.grow_spares.ensures _ c.self.invariant.1),
)

pub returns-in_err-grow_spares-clause-err : goal.returns-in_err-grow_spares-clause-err
returns-in_err-grow_spares-clause-err c =
    MatchResult-from_err c.from_residual-in_err-grow_spares.result _ _ c.from_residual-in_err-grow_spares.ensures.0
    (λ _. c.self.view_is)

pub returns-in_err-grow_spares-clause-ok : goal.returns-in_err-grow_spares-clause-ok
returns-in_err-grow_spares-clause-ok c = grind (arith, common_steps)

pub returns-in_err-make_room-2-clause-err : goal.returns-in_err-make_room-2-clause-err
returns-in_err-make_room-2-clause-err c =
    MatchResult-from_err c.from_residual-in_err-make_room-2.result _ _ c.from_residual-in_err-make_room-2.ensures.0
    (λ _. c.self.view_is)

pub returns-in_err-make_room-2-clause-ok : goal.returns-in_err-make_room-2-clause-ok
returns-in_err-make_room-2-clause-ok c = grind (arith, common_steps)

pub returns-in_err-make_room-clause-err : goal.returns-in_err-make_room-clause-err
returns-in_err-make_room-clause-err c = grind (arith, common_steps)

pub returns-clause-number : goal.returns-clause-number
returns-clause-number c = rw (← c.self.view_is) c.add.ensures.number

pub returns-clause-err : goal.returns-clause-err
returns-clause-err c = on_err_weaker c.add.result (λ e. rw e c.self.view_is) c.add.ensures.err

pub returns-clause-ok : goal.returns-clause-ok
returns-clause-ok c =
    rw (← c.self.view_is)
    (on_ok_weaker c.add.result (λ e. let s : State = record { kept = c.add.new.self; trail = c.self.inside.trail } in
    ap (λ k. record s { kept = k }) e) c.add.ensures.ok)
