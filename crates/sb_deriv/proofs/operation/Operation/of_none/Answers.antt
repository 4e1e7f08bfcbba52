use Rattle.sb_deriv.proofs.Operations.{of_none_and, of_none_other}
use Rattle.sb_deriv.proofs.operation.Operation.of_none.Goals as goal

pub returns-in-And : goal.returns-in-And
returns-in-And c = λ rs a. of_none_and rs c.args.constants.now c.args.self.now c.in-And.is a

pub returns-in-Alt : goal.returns-in-Alt
returns-in-Alt c = λ rs a. of_none_other rs c.args.constants.now c.args.self.now c.in-Alt.is a
