use Rattle.sb_sound.proofs.RegexForms.{regex_lines_exact}
use Rattle.sb_sound.proofs.regexes.regex_lines_are_exact.Goals as goal

pub returns : goal.returns
returns c = regex_lines_exact c.order_tells_apart.ensures
