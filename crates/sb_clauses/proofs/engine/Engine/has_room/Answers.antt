use Rattle.std.proofs.Common.{◌≤◌, sym, subst}
use Rattle.sb_clauses.specs.Propagation.{State}
use Rattle.sb_clauses.proofs.engine.Engine.has_room.Goals as goal

pub returns-then-atoms-reserved : goal.returns-then-atoms-reserved
returns-then-atoms-reserved c =
    sym (c.atoms.ensures c.args.self.now.trail.reserved
    (subst (λ (s : State). c.atoms.result ≤ s.trail.reserved) c.self.view_is
    (subst (λ n. c.atoms.result ≤ n) c.reserved.ensures c.if-atoms-reserved.true)))
