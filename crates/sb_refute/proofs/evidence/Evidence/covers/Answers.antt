use Rattle.sb_lit.specs.declared.clause.ClauseId.{ClauseId}
use Rattle.sb_refute.proofs.Words.{Option, ap, is_some, subst, ◌∙◌, IfOk-from_err, Backing, IsCover}
use Rattle.sb_refute.proofs.Settled.{cover-of}
use Rattle.sb_refute.proofs.evidence.Evidence.covers.Goals as goal

pub returns-in-Some : goal.returns-in-Some
returns-in-Some c =
    subst (λ (o : Option ClauseId). IsCover c.args.self.now.kept c.args.literals.now (is_some o)) c.in-Some.is
    (cover-of c.args.self.now.kept c.clauses.result.now c.args.literals.now c.as_slice.result.now c.in_ok-found.found
    (c.clauses.ensures ∙ ap (λ (e : Backing). e.kept) c.self.view_is)
    (c.as_slice.ensures.value ∙ c.in_ok-denied.ensures) c.in_ok-found.ensures)

pub returns : goal.returns
returns c =
    subst (λ (o : Option ClauseId). IsCover c.args.self.now.kept c.args.literals.now (is_some o)) c.in_default.is
    (cover-of c.args.self.now.kept c.clauses.result.now c.args.literals.now c.as_slice.result.now c.in_ok-found.found
    (c.clauses.ensures ∙ ap (λ (e : Backing). e.kept) c.self.view_is)
    (c.as_slice.ensures.value ∙ c.in_ok-denied.ensures) c.in_ok-found.ensures)

pub returns-in_err-denied : goal.returns-in_err-denied
returns-in_err-denied c = IfOk-from_err c.from_residual.result _ c.from_residual.ensures.0

pub returns-in_err-found : goal.returns-in_err-found
returns-in_err-found c = IfOk-from_err c.from_residual-in_err-found.result _ c.from_residual-in_err-found.ensures.0
