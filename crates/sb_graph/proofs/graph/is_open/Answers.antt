use Rattle.std.proofs.Common.{length}
use Rattle.sb_graph.proofs.Steps.{regexes_below}
use Rattle.sb_graph.proofs.graph.is_open.Goals as goal

pub first_nullable-requires : goal.first_nullable-requires
first_nullable-requires c =
    regexes_below c.args.queue.now c.regexes.result.now (length c.args.arena.now) c.regexes.ensures c.requires
