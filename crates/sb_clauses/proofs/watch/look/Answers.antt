use Rattle.std.proofs.Common.{sym, arith}
use Rattle.sb_trail.specs.Assignments.{held}
use Rattle.sb_clauses.proofs.Literals.{false_with_it, false_by_value}
use Rattle.std.proofs.lemmas.Grind.{common_steps}
use Rattle.sb_clauses.proofs.watch.look.Goals as goal

pub returns-in-None-replacement : goal.returns-in-None-replacement
returns-in-None-replacement c =
    false_with_it (held c.args.trail.now.literals) c.args.partner
    (false_by_value (held c.args.trail.now.literals) c.args.partner
    (sym (rw c.in-Some-false.field-0-test at c.in-Some-false.ensures.value))) c.args.literals.now
    c.in-None-replacement.ensures

pub returns-then-is_empty : goal.returns-then-is_empty
returns-then-is_empty c = grind (arith, common_steps)
