use Rattle.sb_deriv.proofs.Operations.{made_alt, made_and}
use Rattle.sb_deriv.proofs.operation.Operation.gives.Goals as goal

pub returns-in-Alt : goal.returns-in-Alt
returns-in-Alt c = λ h. rw (made_alt c.args.arena.now c.args.self.now _ c.in-Alt.is) at (c.is_union.ensures h)

pub returns-in-And : goal.returns-in-And
returns-in-And c = λ h. rw (made_and c.args.arena.now c.args.self.now _ c.in-And.is) at (c.is_intersection.ensures h)
