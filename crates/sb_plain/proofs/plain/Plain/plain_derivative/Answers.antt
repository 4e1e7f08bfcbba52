use Rattle.sb_plain.proofs.Failing.{learnt_changed}
use Rattle.sb_plain.proofs.plain.Plain.plain_derivative.Goals as goal

pub returns-clause-right : goal.returns-clause-right
returns-clause-right c =
    learnt_changed c.args.arena.now c.plain_derivative.new.arena c.self.inside.learnt c.plain_derivative.new.self
    c.self.inside.failed c.self.inside.walked c.args.self.now c.self.view_is c.requires.right
    c.plain_derivative.ensures.extends c.plain_derivative.ensures.right
