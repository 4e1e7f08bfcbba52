use Rattle.std.proofs.Common.{◌∙◌, arith}
use Rattle.sb_lang.specs.Derivative.{nullable}
use Rattle.sb_regex.proofs.Ordered.{tests_agree}
use Rattle.sb_regex.proofs.arena.Arena.node_nullable.Goals as goal

pub returns-in-Path : goal.returns-in-Path
unfolding nullable
returns-in-Path c =
    let parts = rw (c.in-Path.is) at c.requires in
    rw (c.in-Path.is)
    (c.eq.ensures
    ∙ tests_agree c.order_tells_apart.ensures c.args.self.now c.normal_regexes_each_once.ensures.distinct c.in-Path.a
    c.in-Path.b (parts 0 0 (omega arith)) (parts 1 0 (omega arith)))
