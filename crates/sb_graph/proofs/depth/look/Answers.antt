use Rattle.std.proofs.Common.{sym, ◌∙◌}
use Rattle.sb_graph.proofs.Looping.{failed_has}
use Rattle.sb_graph.proofs.depth.look.Goals as goal

pub returns-then-contains : goal.returns-then-contains
returns-then-contains c =
    failed_has c.args.arena.now c.args.failed.now.keys c.args.state c.args.wanted c.requires.failed
    (sym c.contains.ensures ∙ c.if-contains.true)
