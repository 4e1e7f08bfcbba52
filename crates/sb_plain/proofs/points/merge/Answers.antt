use Rattle.std.proofs.Common.{subst, sym}
use Rattle.std.proofs.lemmas.Result.{IfOk-weaker}
use Rattle.sb_plain.specs.CutPoints.{ArePoints}
use Rattle.sb_plain.proofs.points.merge.Goals as goal

pub returns-clause-points : goal.returns-clause-points
returns-clause-points c =
    IfOk-weaker c.collect.result _ _ (λ points e. subst ArePoints (sym e) c.in_ok-put_lists.ensures.points)
    c.collect.ensures
