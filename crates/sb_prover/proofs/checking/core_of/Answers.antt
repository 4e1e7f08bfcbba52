use Rattle.sb_prover.proofs.Words.{IfOk-from_err, IfOk-weaker}
use Rattle.sb_prover.proofs.checking.core_of.Goals as goal

pub returns : goal.returns
returns c =
    IfOk-weaker c.denied.result _ _
    (λ core found rs.
    rw (c.atoms.ensures, c.deref.ensures.value, c.in_ok-literals.ensures, c.assumptions.ensures.value) at (found rs))
    c.denied.ensures

pub returns-in_err-literals : goal.returns-in_err-literals
returns-in_err-literals c = IfOk-from_err c.from_residual.result _ c.from_residual.ensures.0
