use Rattle.sb_search.proofs.Places.{free_next, waiting_open}
use Rattle.sb_search.proofs.stage.free.Goals as goal

pub returns-in-Some : goal.returns-in-Some
returns-in-Some g c =
    waiting_open c.args.trail.now (g.T.Theory.wanted c.args.theory.now) c.in-Some.atom c.in-Some.ensures

pub returns-in-None : goal.returns-in-None
returns-in-None g c =
    free_next c.args.trail.now (g.T.Theory.wanted c.args.theory.now) c.next_wanted.result c.next_wanted.ensures
