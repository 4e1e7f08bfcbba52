use Rattle.sb_clauses.proofs.Scoping.{pair_there, scoped_pushed}
use Rattle.sb_clauses.proofs.clauses.scope.Goals as goal

pub returns-clause-keeps : goal.returns-clause-keeps
returns-clause-keeps c =
    scoped_pushed c.args.level c.args.number _ _ c.in_ok-push.ensures.permutation c.in_ok-push.ensures.heap_order

pub returns-clause-there : goal.returns-clause-there
returns-clause-there c = λ _. pair_there c.args.level c.args.number _ _ c.in_ok-push.ensures.permutation
