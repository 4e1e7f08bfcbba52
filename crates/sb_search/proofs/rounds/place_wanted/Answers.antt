use Rattle.sb_search.proofs.Words.{◌∙◌, sym, arith, elements, IfOk-from_err}
use Rattle.sb_search.proofs.Places.{places_turn, places_end, widens_both}
use Rattle.sb_search.proofs.rounds.place_wanted.Goals as goal

pub loop-atom-preserved : goal.loop-atom-preserved
loop-atom-preserved g c =
    let made = c.in_ok-make_place.ensures in (
      widens_both c.args.engine.now c.loop-atom.engine c.make_place.new.engine c.loop-atom.invariant.0 made.widens,
      places_turn c.loop-atom.engine.trail.reserved c.make_place.new.engine.trail.reserved
          (g.T.Theory.wanted c.args.theory.now) c.loop-atom.at c.in-Some.atom c.in-Some.ensures.atom
          made.widens.reserved c.loop-atom.invariant.1 made.place,
    )

pub returns-clause-places : goal.returns-clause-places
returns-clause-places g c =
    places_end c.loop-atom.engine.trail.reserved (g.T.Theory.wanted c.args.theory.now) c.loop-atom.at
    (sym c.in_default.is ∙ c.wanted_at.ensures.atom) c.loop-atom.invariant.1

pub loop-atom-smaller : goal.loop-atom-smaller
loop-atom-smaller g c = grind (arith, elements)

pub overflow_add-at : goal.overflow_add-at
overflow_add-at g c = grind (arith, elements)

pub returns-in_err-make_place : goal.returns-in_err-make_place
returns-in_err-make_place g c = record {
  widens = IfOk-from_err c.from_residual.result _ c.from_residual.ensures.0;
  places = IfOk-from_err c.from_residual.result _ c.from_residual.ensures.0;
}

pub returns-in_err-want : goal.returns-in_err-want
returns-in_err-want g c =
    let r = c.from_residual-in_err-want in
    record { widens = IfOk-from_err r.result _ r.ensures.0; places = IfOk-from_err r.result _ r.ensures.0 }
