use Rattle.std.proofs.Common.{◌∙◌}
use Rattle.sb_atoms.proofs.GateFacts.{ordered_step}
use Rattle.sb_atoms.proofs.gates.ordered.Goals as goal

pub loop-clause-preserved : goal.loop-clause-preserved
loop-clause-preserved c =
    ordered_step c.args.said.now c.loop-clause.clause-index _ c.in_ok-literals.literals.items c.loop-clause.found.items
    c.put.new.clauses.items c.loop-clause-test.true
    (c.in_ok-literals.ensures.items ∙ c.literals.ensures ∙ c.clause-item.is) c.loop-clause.invariant c.in_ok-put.ensures
