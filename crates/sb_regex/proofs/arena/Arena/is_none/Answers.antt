use Rattle.std.proofs.Common.{ap, ◌∙◌}
use Rattle.sb_lang.specs.Constructors.{is_none}
use Rattle.sb_regex.proofs.Comparing.{none_at, not_none}
use Rattle.sb_regex.proofs.arena.Arena.is_none.Goals as goal

pub returns-in-None : goal.returns-in-None
returns-in-None c = none_at c.args.self.now _ c.in-None.is ∙ ap is_none c.node.ensures.value

pub returns-in_default : goal.returns-in_default
returns-in_default c = not_none c.args.self.now _ c.in_default.not-None ∙ ap is_none c.node.ensures.value
