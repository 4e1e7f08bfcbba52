use Rattle.std.proofs.Common.{is_some, ap}
use Rattle.sb_rulebook.proofs.TranslatedTerms.{term_fits}
use Rattle.sb_rulebook.proofs.laws.translated_fits.Goals as goal

pub returns : goal.returns
returns c = λ atoms t l well h. term_fits c.small_both_ways.ensures atoms t well (ap is_some h)
