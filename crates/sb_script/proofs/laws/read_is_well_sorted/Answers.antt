use Rattle.sb_script.proofs.SortedTerms.{read_is_well_sorted}
use Rattle.sb_script.proofs.laws.read_is_well_sorted.Goals as goal

pub returns : goal.returns
returns c = read_is_well_sorted
