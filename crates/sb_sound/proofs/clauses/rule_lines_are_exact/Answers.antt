use Rattle.sb_sound.proofs.LineForms.{rule_lines_exact}
use Rattle.sb_sound.proofs.clauses.rule_lines_are_exact.Goals as goal

pub returns : goal.returns
returns c = rule_lines_exact c.gates_are_exact.ensures c.orders_are_exact.ensures c.linear_is_exact.ensures
    c.steps_are_exact.ensures c.empty_is_exact.ensures
