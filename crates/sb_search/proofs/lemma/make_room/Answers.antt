use Rattle.sb_search.proofs.Words.{le-max_right, IfOk-from_err}
use Rattle.sb_search.proofs.Places.{widens_reserved}
use Rattle.sb_search.proofs.lemma.make_room.Goals as goal

pub returns : goal.returns
returns c = record {
  widens = widens_reserved c.args.engine.now c.reserve.new.self c.atoms-atoms.result c.in_ok-reserve.ensures.ok;
  room = rw c.in_ok-reserve.ensures.ok
      (c.atoms-atoms.ensures _ (le-max_right c.args.engine.now.trail.reserved c.atoms-atoms.result));
}

pub returns-in_err-reserve : goal.returns-in_err-reserve
returns-in_err-reserve c = record {
  widens = IfOk-from_err c.from_residual.result _ c.from_residual.ensures.0;
  room = IfOk-from_err c.from_residual.result _ c.from_residual.ensures.0;
}
