use Rattle.std.proofs.Common.{sym, subst, ap, ◌∙◌}
use Rattle.sb_plain.specs.Memory.{AreWalked}
use Rattle.sb_plain.specs.Staying.{AreAlike}
use Rattle.sb_plain.proofs.walked.Walked.turn_to.Goals as goal

pub returns-clause-right : goal.returns-clause-right
returns-clause-right c = λ rs walked.
    subst (λ w. AreWalked rs (c.in_ok-copy.copy.items, w.1, w.2)) (sym c.self-2.view_is)
    (c.leave.ensures rs c.in_ok-copy.copy.items
    (subst (λ w. AreAlike c.common-count.result w c.args.self.now.0) (sym c.in_ok-copy.ensures.items)
    (subst (AreAlike c.common-count.result c.args.codes.now) (c.deref.ensures.value ∙ ap (λ m. m.0) c.self.view_is)
    c.common-count.ensures))
    walked)
