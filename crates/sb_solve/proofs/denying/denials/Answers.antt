use Rattle.std.specs.HashSet.{contains}
use Rattle.sb_solve.proofs.Words.{List, sym, subst, arith, take, take_all, take_more, IfOk-from_err, AreDenials, Lit, are_equal, claim_of}
use Rattle.sb_solve.proofs.Claims.{denials_more}
use Rattle.sb_solve.proofs.denying.denials.Goals as goal

pub loop-literal-preserved : goal.loop-literal-preserved
loop-literal-preserved c =
    subst (λ (ls : List Lit). AreDenials c.args.atoms.now ls (λ a. contains are_equal c.deny.new.claims (claim_of a)))
    (sym (take_more c.args.clause.now c.loop-literal.literal-index _ c.loop-literal-test.true))
    (denials_more c.args.atoms.now (take c.loop-literal.literal-index c.args.clause.now) _
    (λ a. contains are_equal c.loop-literal.claims (claim_of a))
    (λ a. contains are_equal c.deny.new.claims (claim_of a)) c.loop-literal.invariant c.in_ok-deny.ensures)

pub returns : goal.returns
returns c =
    subst (λ (ls : List Lit). AreDenials c.args.atoms.now ls
    (λ a. contains are_equal c.loop-literal.claims (claim_of a)))
    (take_all c.loop-literal.literal-index c.args.clause.now (omega (arith, c.loop-literal-test.false)))
    c.loop-literal.invariant

pub returns-in_err-deny : goal.returns-in_err-deny
returns-in_err-deny c = IfOk-from_err c.from_residual.result _ c.from_residual.ensures.0
