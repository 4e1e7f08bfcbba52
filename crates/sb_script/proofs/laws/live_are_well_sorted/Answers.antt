use Rattle.sb_script.proofs.SortedSteps.{live_sorted}
use Rattle.sb_script.proofs.laws.live_are_well_sorted.Goals as goal

pub returns : goal.returns
returns c = live_sorted
