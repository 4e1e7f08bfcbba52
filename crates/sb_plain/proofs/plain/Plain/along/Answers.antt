use Rattle.sb_plain.proofs.Failing.{learnt_changed}
use Rattle.sb_plain.proofs.plain.Plain.along.Goals as goal

pub returns-clause-right : goal.returns-clause-right
returns-clause-right c =
    learnt_changed c.args.arena.now c.along.new.arena c.self.inside.learnt c.along.new.self
    c.self.inside.failed c.self.inside.walked c.args.self.now c.self.view_is c.requires.right
    c.along.ensures.extends c.along.ensures.right
