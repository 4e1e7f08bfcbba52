use Rattle.sb_script.proofs.SortedSteps.{entry_sorted}
use Rattle.sb_script.proofs.laws.entries_keep_sorts.Goals as goal

pub returns : goal.returns
returns c = entry_sorted
