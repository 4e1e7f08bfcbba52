use Rattle.sb_reader.proofs.Readings.{tokens_stay}
use Rattle.sb_reader.proofs.laws.tokens_stay.Goals as goal

pub returns : goal.returns
returns c = tokens_stay
