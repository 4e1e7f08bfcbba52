use Rattle.sb_prover.proofs.Words.{ap, ◌||◌, ◌∙◌, IfOk-from_err, is_assumed}
use Rattle.sb_prover.proofs.checking.truths_of.Goals as goal

pub returns : goal.returns
returns c = λ n.
    c.in_ok-assume_all.ensures n ∙ ap (λ b. b || is_assumed c.args.given.now n) (c.in_ok-others.ensures n)

pub returns-in_err-others : goal.returns-in_err-others
returns-in_err-others c = IfOk-from_err c.from_residual.result _ c.from_residual.ensures.0

pub returns-in_err-assume_all : goal.returns-in_err-assume_all
returns-in_err-assume_all c =
    IfOk-from_err c.from_residual-in_err-assume_all.result _ c.from_residual-in_err-assume_all.ensures.0
