use Rattle.sb_lengths.proofs.Within.{cat_lengths}
use Rattle.sb_lengths.proofs.Lengths.cat.Goals as goal

pub returns : goal.returns
returns c = cat_lengths c.cut_is_some_cut.ensures c.args.self c.args.other _ c.sums.ensures c.sums-2.ensures
