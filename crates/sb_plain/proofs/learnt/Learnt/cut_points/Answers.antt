use Rattle.std.proofs.Common.{subst}
use Rattle.std.proofs.lemmas.Result.{IfOk-weaker}
use Rattle.sb_lang.specs.Regex.{Regex}
use Rattle.sb_regex.proofs.CallerLemmas.{at_kept}
use Rattle.sb_plain.specs.CutPoints.{AreCutPoints}
use Rattle.sb_plain.proofs.Remembering.{points_right}
use Rattle.sb_plain.proofs.learnt.Learnt.cut_points.Goals as goal

pub returns-clause-ok : goal.returns-clause-ok
returns-clause-ok c =
    IfOk-weaker c.copy_points.result _ _
    (λ points h. subst (λ (x : Regex). AreCutPoints x points.items)
    (at_kept c.args.arena.now c.learn.new.arena c.args.r c.in_ok-learn.ensures.extends c.requires.known)
    (points_right c.learn.new.arena c.learn.new.self c.args.r points.items c.in_ok-learn.ensures.right h).1)
    c.copy_points.ensures
