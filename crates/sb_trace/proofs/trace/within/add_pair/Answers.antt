use Rattle.sb_trace.proofs.Pairs.{pair_grew}
use Rattle.sb_trace.proofs.trace.within.add_pair.Goals as goal

pub returns-clause-grew : goal.returns-clause-grew
returns-clause-grew c =
    pair_grew c.args.pairs.now.keys c.insert.new.self.keys (c.args.first, c.args.second) c.in_ok-insert.ensures.keys
