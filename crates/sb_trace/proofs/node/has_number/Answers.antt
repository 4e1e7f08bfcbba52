use Rattle.std.proofs.Common.{is_some, ap, ◌∙◌}
use Rattle.sb_trace.proofs.Positions.{number_from_index}
use Rattle.sb_trace.proofs.node.has_number.Goals as goal

pub returns : goal.returns
returns c = c.is_some.ensures
    ∙ ap is_some
    (number_from_index c.args.order.now.keys c.args.regex c.get_index_of.result c.get_index_of.ensures.index)
