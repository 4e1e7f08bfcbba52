use Rattle.sb_reader.proofs.Scripts.{one_script}
use Rattle.sb_reader.proofs.laws.one_script.Goals as goal

pub returns : goal.returns
returns c = one_script
