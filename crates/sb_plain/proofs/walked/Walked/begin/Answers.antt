use Rattle.std.proofs.Common.{sym, subst, ap, ◌∙◌}
use Rattle.sb_plain.specs.Memory.{IsStay}
use Rattle.sb_plain.specs.Staying.{AreAlike}
use Rattle.sb_plain.proofs.Staying.{stay_cut}
use Rattle.sb_plain.proofs.walked.Walked.begin.Goals as goal

pub returns-in-Some-clause-right : goal.returns-in-Some-clause-right
returns-in-Some-clause-right c = λ rs walked l.
    c.or_start.ensures.right rs c.args.codes.now l
    (subst (IsStay rs c.args.regex c.args.codes.now) (sym c.cut.ensures)
    (stay_cut rs c.args.regex c.args.codes.now c.args.self.now.0 c.in-Some.stay c.common.result
    (subst (AreAlike c.common.result c.args.codes.now) (c.deref.ensures.value ∙ ap (λ m. m.0) c.self.view_is)
    c.common.ensures)
    (c.in-Some.ensures rs walked)))
