use Rattle.sb_rulebook.proofs.NumberFacts.{regex_is_there_by_number}
use Rattle.sb_rulebook.proofs.laws.regex_is_there_by_number.Goals as goal

pub returns : goal.returns
returns c = regex_is_there_by_number
