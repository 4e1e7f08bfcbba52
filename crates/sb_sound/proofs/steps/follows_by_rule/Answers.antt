use Rattle.sb_sound.proofs.Accepting.{follows_by_rule}
use Rattle.sb_sound.proofs.steps.follows_by_rule.Goals as goal

pub returns : goal.returns
returns c = follows_by_rule
