use Rattle.std.proofs.Common.{arith}
use Rattle.sb_clauses.proofs.LinkLemmas.{link_set}
use Rattle.std.proofs.lemmas.Grind.{common_steps}
use Rattle.sb_clauses.proofs.links.Links.set.Goals as goal

pub returns : goal.returns
returns c =
    rw (← c.self.view_is)
    (link_set c.self.inside.codes.items c.args.at c.code_of.result c.args.number c.code_of.ensures)

pub index_mut-requires : goal.index_mut-requires
index_mut-requires c = grind (arith, common_steps)
