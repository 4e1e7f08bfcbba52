use Rattle.sb_prover.proofs.Words.{◌||◌, List, [], ◌∷◌, ◌++◌, ap, ◌∙◌, sym, arith, take, take_all, take_more, IfOk-from_err, Assumption, is_assumed, truth_in}
use Rattle.sb_prover.proofs.AssumedTruths.{more_assumed, none_assumed}
use Rattle.sb_prover.proofs.checking.assume_all.Goals as goal

pub loop-assumption-init : goal.loop-assumption-init
loop-assumption-init c = none_assumed c.args.truths.now.items

pub loop-assumption-preserved : goal.loop-assumption-preserved
loop-assumption-preserved c = λ n.
    let given = c.args.given.now in
    let i = c.loop-assumption.assumption-index in
    let a = c.assumption-item.result in
    more_assumed (take i given) a c.args.truths.now.items c.loop-assumption.truths.items c.assume.new.truths.items
    c.loop-assumption.invariant c.in_ok-assume.ensures n
    ∙ ap (λ (xs : List Assumption). truth_in c.args.truths.now.items n || is_assumed xs n)
    (ap (λ (x : Assumption). take i given ++ x ∷ []) c.assumption-item.is
    ∙ sym (take_more given i a c.loop-assumption-test.true))

pub returns : goal.returns
returns c = λ n.
    c.loop-assumption.invariant n
    ∙ ap (λ (xs : List Assumption). truth_in c.args.truths.now.items n || is_assumed xs n)
    (take_all c.loop-assumption.assumption-index c.args.given.now (omega (arith, c.loop-assumption-test.false)))

pub returns-in_err-assume : goal.returns-in_err-assume
returns-in_err-assume c = IfOk-from_err c.from_residual.result _ c.from_residual.ensures.0
