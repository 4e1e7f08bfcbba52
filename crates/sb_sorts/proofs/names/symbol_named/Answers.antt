use Rattle.std.proofs.Common.{option_map, ap, ◌∙◌}
use Rattle.sb_term.specs.Symbols.{symbol_in}
use Rattle.sb_sorts.proofs.CallerLemmas.{found_as}
use Rattle.sb_sorts.proofs.names.symbol_named.Goals as goal

pub returns : goal.returns
returns c = ap (option_map symbol_in) c.look_up.ensures ∙ found_as symbol_in _ c.args.name.now
