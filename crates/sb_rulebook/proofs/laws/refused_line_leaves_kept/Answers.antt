use Rattle.sb_rulebook.proofs.TextFacts.{refused_line_leaves_kept}
use Rattle.sb_rulebook.proofs.laws.refused_line_leaves_kept.Goals as goal

pub returns : goal.returns
returns c = refused_line_leaves_kept
