use Rattle.sb_lengths.proofs.Within.{repeat_lengths}
use Rattle.sb_lengths.proofs.Lengths.repeat.Goals as goal

pub returns : goal.returns
returns c =
    repeat_lengths c.cut_is_some_cut.ensures c.repetition_is_some_power.ensures c.args.least c.args.most c.args.self _
    c.powers.ensures c.powers-2.ensures
