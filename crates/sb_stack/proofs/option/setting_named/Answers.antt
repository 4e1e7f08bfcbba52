use Rattle.std.proofs.Common.{option_map, ap, ◌∙◌}
use Rattle.sb_sorts.proofs.CallerLemmas.{found_as}
use Rattle.sb_stack.specs.Settings.{set_in, text_in}
use Rattle.sb_stack.proofs.option.setting_named.Goals as goal

pub returns-clause-set : goal.returns-clause-set
returns-clause-set c = ap (option_map set_in) c.look_up.ensures ∙ found_as set_in _ c.args.key.now

pub returns-clause-read : goal.returns-clause-read
returns-clause-read c = ap (option_map text_in) c.look_up.ensures ∙ found_as text_in _ c.args.key.now
