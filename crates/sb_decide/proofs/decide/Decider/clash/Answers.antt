use Rattle.sb_decide.proofs.Questions.{clash_of}
use Rattle.sb_decide.proofs.decide.Decider.clash.Goals as goal

pub returns : goal.returns
returns c =
    clash_of c.args.self.now c.unwrap-serial.result c.places.result.now c.unwrap-serial.ensures c.places.ensures
