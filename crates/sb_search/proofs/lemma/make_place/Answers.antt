use Rattle.sb_search.proofs.Words.{on_ok_weaker}
use Rattle.sb_search.proofs.Places.{widens_reserved}
use Rattle.sb_search.proofs.lemma.make_place.Goals as goal

pub returns-in-Some-clause-widens : goal.returns-in-Some-clause-widens
returns-in-Some-clause-widens c =
    on_ok_weaker c.reserve.result (widens_reserved c.args.engine.now c.reserve.new.self _) c.reserve.ensures.ok
