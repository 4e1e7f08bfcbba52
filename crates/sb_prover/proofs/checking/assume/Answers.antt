use Rattle.sb_prover.proofs.Words.{◌≡◌, ◌||◌, ◌&&◌, ◌==◌, ◌∙◌, subst, on_ok_weaker, Assumption, truth_in}
use Rattle.sb_prover.proofs.AssumedTruths.{not_more, one_more}
use Rattle.sb_prover.proofs.checking.assume.Goals as goal

pub returns-then-not-positive : goal.returns-then-not-positive
returns-then-not-positive c = λ n.
    let t = truth_in c.args.truths.now.items n in
    subst (λ (b : Assumption). t ≡ (t || ((b.0 == n) && b.1))) c.assumption.view_is
    (not_more t (c.assumption.inside.serial.0 == n) c.assumption.inside.positive c.if-not-positive.true)

pub returns : goal.returns
returns c =
    on_ok_weaker c.mark.result
    (λ marked n.
    let t = truth_in c.args.truths.now.items n in
    marked n
    ∙ subst (λ (b : Assumption). (t || (c.assumption.inside.serial.0 == n)) ≡ (t || ((b.0 == n) && b.1)))
    c.assumption.view_is
    (one_more t (c.assumption.inside.serial.0 == n) c.assumption.inside.positive c.if-not-positive.false))
    c.mark.ensures
