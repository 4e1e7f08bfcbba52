use Rattle.sb_rulebook.proofs.NumberFacts.{regex_has_its_number}
use Rattle.sb_rulebook.proofs.laws.regex_has_its_number.Goals as goal

pub returns : goal.returns
returns c = regex_has_its_number c.order_tells_apart.ensures
