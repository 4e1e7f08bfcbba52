use Rattle.std.proofs.Common.{arith}
use Rattle.std.proofs.lemmas.Grind.{common_steps}
use Rattle.sb_clauses.proofs.watches.Watches.make_room.Goals as goal

pub returns-clause-room : goal.returns-clause-room
returns-clause-room c = grind (arith, common_steps)

pub returns-clause-roomier : goal.returns-clause-roomier
returns-clause-roomier c = grind (arith, common_steps)

pub returns-in_err-add_nodes-clause-roomier : goal.returns-in_err-add_nodes-clause-roomier
returns-in_err-add_nodes-clause-roomier c = grind (arith, common_steps)
