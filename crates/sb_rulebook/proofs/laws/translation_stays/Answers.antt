use Rattle.sb_rulebook.proofs.TableStays.{term_stays}
use Rattle.sb_rulebook.proofs.laws.translation_stays.Goals as goal

pub returns : goal.returns
returns c = λ atoms more t l h. (term_stays t).stay atoms more l h
