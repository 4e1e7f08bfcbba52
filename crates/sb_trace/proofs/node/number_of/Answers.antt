use Rattle.std.proofs.Common.{is_some, sym, ap, ◌∙◌}
use Rattle.sb_trace.proofs.Positions.{number_from_index}
use Rattle.sb_trace.proofs.node.number_of.Goals as goal

pub unwrap-requires : goal.unwrap-requires
unwrap-requires c =
    let e = number_from_index c.args.order.now.keys c.args.regex c.get_index_of.result c.get_index_of.ensures.index in
    ap is_some e ∙ c.requires

pub returns : goal.returns
returns c =
    let e = number_from_index c.args.order.now.keys c.args.regex c.get_index_of.result c.get_index_of.ensures.index in
    sym e ∙ c.unwrap.ensures
