use Rattle.sb_plain.proofs.Failing.{learnt_changed}
use Rattle.sb_plain.proofs.plain.Plain.cut_points.Goals as goal

pub returns-clause-right : goal.returns-clause-right
returns-clause-right c =
    learnt_changed c.args.arena.now c.cut_points.new.arena c.self.inside.learnt c.cut_points.new.self
    c.self.inside.failed c.self.inside.walked c.args.self.now c.self.view_is c.requires.right
    c.cut_points.ensures.extends c.cut_points.ensures.right
