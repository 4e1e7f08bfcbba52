use Rattle.sb_reader.proofs.Readings.{one_first_token}
use Rattle.sb_reader.proofs.laws.one_first_token.Goals as goal

pub returns : goal.returns
returns c = one_first_token
