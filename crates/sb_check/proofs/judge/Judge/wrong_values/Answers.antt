use Rattle.std.proofs.Common.{◌∙◌}
use Rattle.sb_check.proofs.Growing.{grown, stands_grown}
use Rattle.sb_check.proofs.judge.Judge.wrong_values.Goals as goal

pub returns-in_err-right-clause-kept : goal.returns-in_err-right-clause-kept
returns-in_err-right-clause-kept c others =
    grown c.is_inside.new.self.kept c.is_model.new.arena c.is_model.new.plain c.is_model.new.normals others
    c.is_inside.ensures.standing.over.whole c.is_model.ensures.extends
    ∙ c.is_inside.ensures.kept others

pub returns-in_err-right-clause-standing : goal.returns-in_err-right-clause-standing
returns-in_err-right-clause-standing c =
    stands_grown c.is_inside.new.self c.is_model.new.arena c.is_model.new.plain c.is_model.new.normals
    c.is_model.new.self c.is_inside.ensures.standing c.is_model.ensures.extends c.is_model.ensures.normals
    c.is_model.ensures.right c.is_model.ensures.knows

pub returns-clause-kept : goal.returns-clause-kept
returns-clause-kept c others =
    grown c.is_inside.new.self.kept c.is_model.new.arena c.is_model.new.plain c.is_model.new.normals others
    c.is_inside.ensures.standing.over.whole c.is_model.ensures.extends
    ∙ c.is_inside.ensures.kept others

pub returns-clause-standing : goal.returns-clause-standing
returns-clause-standing c =
    stands_grown c.is_inside.new.self c.is_model.new.arena c.is_model.new.plain c.is_model.new.normals
    c.is_model.new.self c.is_inside.ensures.standing c.is_model.ensures.extends c.is_model.ensures.normals
    c.is_model.ensures.right c.is_model.ensures.knows
