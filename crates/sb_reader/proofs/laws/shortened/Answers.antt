use Rattle.sb_reader.proofs.Shortening.{shortens_to_itself, shortens_twice, shortens_before, same_entry, same_none, same_end}
use Rattle.sb_reader.proofs.laws.shortened.Goals as goal

pub returns-clause-itself : goal.returns-clause-itself
returns-clause-itself c = shortens_to_itself

pub returns-clause-twice : goal.returns-clause-twice
returns-clause-twice c = shortens_twice

pub returns-clause-more : goal.returns-clause-more
returns-clause-more c = shortens_before

pub returns-clause-entry : goal.returns-clause-entry
returns-clause-entry c = same_entry

pub returns-clause-none : goal.returns-clause-none
returns-clause-none c = same_none

pub returns-clause-end : goal.returns-clause-end
returns-clause-end c = same_end
