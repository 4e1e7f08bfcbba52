use Rattle.std.proofs.Common.{◌≤◌, length, arith}
use Rattle.sb_clauses.proofs.LinkLemmas.{link_grown}
use Rattle.std.proofs.lemmas.Grind.{common_steps}
use Rattle.sb_clauses.proofs.links.Links.grow.Goals as goal

pub returns-clause-ok : goal.returns-clause-ok
returns-clause-ok c =
    let more : length c.self.inside.codes.items ≤ c.args.len =
    omega (arith, c.if-len.false, c.len.ensures, c.self.inside.codes.ok.0) in
    rw (c.in_ok-resize.ensures.items, c.self.inside.codes.ok.0, ← c.self.view_is)
    (link_grown c.self.inside.codes.items c.args.len more)

pub returns-then-len-clause-ok : goal.returns-then-len-clause-ok
returns-then-len-clause-ok c = grind (arith, common_steps)
