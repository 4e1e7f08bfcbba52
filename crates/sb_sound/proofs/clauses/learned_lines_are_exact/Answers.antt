use Rattle.sb_sound.proofs.LineForms.{learned_lines_exact}
use Rattle.sb_sound.proofs.clauses.learned_lines_are_exact.Goals as goal

pub returns : goal.returns
returns c = learned_lines_exact c.learned_is_exact.ensures
