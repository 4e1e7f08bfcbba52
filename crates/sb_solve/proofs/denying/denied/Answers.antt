use Rattle.std.specs.HashSet.{contains}
use Rattle.sb_solve.proofs.Words.{◌≡◌, ◌+◌, ◌++◌, ◌∷◌, Bool, List, drop, filter, sym, ap, subst, ◌∙◌, arith, append-nil, drop_all, drop_more, IfOk-from_err, Assumption, are_equal, atoms_in, claim_of, denied_in, each_once}
use Rattle.sb_solve.proofs.Claims.{left_first, left_other, left_taken}
use Rattle.sb_solve.proofs.denying.denied.Goals as goal

pub loop-assumption-init : goal.loop-assumption-init
loop-assumption-init c = λ rs.
    ap (λ (xs : List Assumption). xs ++ filter (λ a. contains are_equal c.in_ok-claims.claims (claim_of a))
    (each_once c.args.given.now)) c.new-found.ensures.items
    ∙ left_first rs c.args.atoms.now c.args.clause.now c.args.given.now
    (λ a. contains are_equal c.in_ok-claims.claims (claim_of a)) c.in_ok-claims.ensures

pub loop-assumption-preserved-then-not-take : goal.loop-assumption-preserved-then-not-take
loop-assumption-preserved-then-not-take c = λ rs.
    let has : Assumption → Bool = λ a. contains are_equal c.loop-assumption.claims (claim_of a) in
    let a = c.assumption-item.result in
    let given = c.args.given.now in
    let found = c.loop-assumption.found.items in
    let whole = denied_in (atoms_in rs c.args.atoms.now) c.args.clause.now given in
    let rest = drop (c.loop-assumption.assumption-index + 1) given in
    let left : drop c.loop-assumption.assumption-index given ≡ a ∷ rest =
    drop_more given c.loop-assumption.assumption-index a c.loop-assumption-test.true
    ∙ ap (λ (x : Assumption). x ∷ rest) (sym c.assumption-item.is) in
    left_other has (λ b. contains are_equal c.take.new.claims (claim_of b)) a found rest whole
    (sym c.take.ensures.there ∙ c.if-not-take.true) c.take.ensures.left
    (subst (λ (xs : List Assumption). found ++ filter has (each_once xs) ≡ whole) left (c.loop-assumption.invariant rs))

pub loop-assumption-preserved : goal.loop-assumption-preserved
loop-assumption-preserved c = λ rs.
    let has : Assumption → Bool = λ a. contains are_equal c.loop-assumption.claims (claim_of a) in
    let now : Assumption → Bool = λ a. contains are_equal c.take.new.claims (claim_of a) in
    let a = c.assumption-item.result in
    let given = c.args.given.now in
    let found = c.loop-assumption.found.items in
    let whole = denied_in (atoms_in rs c.args.atoms.now) c.args.clause.now given in
    let rest = drop (c.loop-assumption.assumption-index + 1) given in
    let left : drop c.loop-assumption.assumption-index given ≡ a ∷ rest =
    drop_more given c.loop-assumption.assumption-index a c.loop-assumption-test.true
    ∙ ap (λ (x : Assumption). x ∷ rest) (sym c.assumption-item.is) in
    ap (λ (xs : List Assumption). xs ++ filter now (each_once rest)) c.in_ok-push.ensures.items
    ∙ left_taken has now a found rest whole (sym c.take.ensures.there ∙ c.if-not-take.false) c.take.ensures.left
    (subst (λ (xs : List Assumption). found ++ filter has (each_once xs) ≡ whole) left (c.loop-assumption.invariant rs))

pub returns : goal.returns
returns c = λ rs.
    let found = c.loop-assumption.found.items in
    sym (ap (λ (xs : List Assumption).
    found ++ filter (λ a. contains are_equal c.loop-assumption.claims (claim_of a)) (each_once xs))
    (drop_all c.loop-assumption.assumption-index c.args.given.now (omega (arith, c.loop-assumption-test.false)))
    ∙ append-nil found)
    ∙ c.loop-assumption.invariant rs

pub returns-in_err-claims : goal.returns-in_err-claims
returns-in_err-claims c = IfOk-from_err c.from_residual.result _ c.from_residual.ensures.0

pub returns-in_err-push : goal.returns-in_err-push
returns-in_err-push c = IfOk-from_err c.from_residual-in_err-push.result _ c.from_residual-in_err-push.ensures.0
