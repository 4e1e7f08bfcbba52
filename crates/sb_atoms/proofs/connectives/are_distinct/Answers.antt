use Rattle.sb_atoms.proofs.ConnectiveTruths.{few_differ, many_differ}
use Rattle.sb_atoms.proofs.connectives.are_distinct.Goals as goal

pub returns-in-empty : goal.returns-in-empty
returns-in-empty c = few_differ c.args.truths.now c.in-empty.len_below

pub returns-in_default : goal.returns-in_default
returns-in_default c = many_differ c.args.truths.now c.in_default.len_at_least
