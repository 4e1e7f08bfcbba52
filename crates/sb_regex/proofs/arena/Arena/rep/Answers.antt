use Rattle.sb_regex.proofs.CallerLemmas.{names_from}
use Rattle.sb_regex.proofs.Building.{rep_none, rep_nothing, rep_once}
use Rattle.sb_regex.proofs.arena.Arena.rep.Goals as goal

pub returns-then-most-least-clause-ok : goal.returns-then-most-least-clause-ok
returns-then-most-least-clause-ok c =
    rw (← rep_none _ c.args.least c.args.most c.if-most-least.true) (c.none.ensures.ok)

pub returns-then-most-eq0-clause-ok : goal.returns-then-most-eq0-clause-ok
returns-then-most-eq0-clause-ok c =
    rw (← rep_nothing _ c.args.least c.args.most c.if-most-least.false c.if-most-eq0.true) (c.eps.ensures.ok)

pub returns-then-most-eq1-clause-ok : goal.returns-then-most-eq1-clause-ok
returns-then-most-eq1-clause-ok c =
    names_from c.args.self.now c.args.body _ c.requires
    (rep_once _ c.args.least c.args.most c.if-least-eq1.true c.if-most-eq1.true)
