use Rattle.sb_search.proofs.Words.{arith, common_steps, IfOk-from_err}
use Rattle.sb_search.proofs.Places.{reserved_turn, widens_both}
use Rattle.sb_search.proofs.rounds.place_all.Goals as goal

pub loop-literal-preserved : goal.loop-literal-preserved
loop-literal-preserved c =
    let made = c.in_ok-make_place.ensures in (
      widens_both c.args.engine.now c.loop-literal.engine c.make_place.new.engine c.loop-literal.invariant.0
          made.widens,
      reserved_turn c.loop-literal.engine.trail.reserved c.make_place.new.engine.trail.reserved c.args.literals.now
          c.loop-literal.literal-index _ c.loop-literal-test.true made.widens.reserved c.loop-literal.invariant.1
          made.place,
    )

pub returns-clause-places : goal.returns-clause-places
returns-clause-places c = grind (arith, common_steps)

pub returns-in_err-make_place : goal.returns-in_err-make_place
returns-in_err-make_place c = record {
  widens = IfOk-from_err c.from_residual.result _ c.from_residual.ensures.0;
  places = IfOk-from_err c.from_residual.result _ c.from_residual.ensures.0;
}
