use Rattle.sb_sound.proofs.LineForms.{assertion_lines_exact}
use Rattle.sb_sound.proofs.clauses.assertion_lines_are_exact.Goals as goal

pub returns : goal.returns
returns c = assertion_lines_exact
