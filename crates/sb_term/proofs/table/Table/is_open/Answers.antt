use Rattle.std.proofs.Common.{length, ap, arith}
use Rattle.sb_term.specs.Nodes.{terms_of_table}
use Rattle.sb_term.proofs.Marks.{marks_long, mark_at}
use Rattle.sb_term.proofs.table.Table.is_open.Goals as goal

pub index-requires : goal.index-requires
index-requires c =
    let ts = terms_of_table c.self.inside.nodes.keys in
    let long = marks_long ts c.self.inside.parametric.items c.self.invariant.1 in
    omega (arith, long, ap length c.self.view_is, c.requires, c.number.ensures, c.self.inside.parametric.ok.0)

pub returns : goal.returns
returns c =
    let ts = terms_of_table c.self.inside.nodes.keys in
    rw (← c.self.view_is)
    (mark_at ts c.self.inside.parametric.items c.args.id c.index.result.now c.self.invariant.1
    (rw (c.self.view_is) c.requires) (rw (c.number.ensures) at c.index.ensures))
