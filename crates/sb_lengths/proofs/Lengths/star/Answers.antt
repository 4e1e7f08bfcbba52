use Rattle.sb_lengths.proofs.Within.{star_lengths}
use Rattle.sb_lengths.proofs.Lengths.star.Goals as goal

pub returns : goal.returns
returns c =
    star_lengths c.cut_is_some_cut.ensures c.iteration_is_some_power.ensures c.args.self _ c.repeats.ensures
    c.repeats-2.ensures
