use Rattle.std.proofs.Common.{slice_get, subst, ap, ◌∙◌}
use Rattle.std.proofs.lemmas.Option.{get_or_from_slice_get}
use Rattle.sb_plain.specs.CutPoints.{ArePoints}
use Rattle.sb_plain.proofs.learnt.Learnt.has_points.Goals as goal

pub returns : goal.returns
returns c =
    λ list there. subst ArePoints
    (c.index.ensures
    ∙ get_or_from_slice_get c.self.inside.lists.items c.args.place list _
    (ap (λ m. slice_get m.0 c.args.place) c.self.view_is ∙ there)) c.as_slice-points.ensures.points
