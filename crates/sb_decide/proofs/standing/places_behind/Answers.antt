use Rattle.sb_decide.proofs.Words.{take_rest}
use Rattle.sb_decide.proofs.standing.places_behind.Goals as goal

pub returns : goal.returns
returns c = take_rest c.args.places.now c.args.count
